-- The losses of a run are few, each of another machine.
use Rattle.std.proofs.Common.{◌≡◌, ◌≢◌, ◌<◌, ◌≤◌, ◌+◌, ◌==◌, ℕ, suc, List, [], ◌∷◌, ◌++◌, length, length-append, map, Bool, true, false, cond, max, refl, ap, sym, subst, ◌∙◌, arith}
use Rattle.std.specs.List.{All, count_by, zip}
use Rattle.std.proofs.lemmas.List.{map-append}
use Rattle.std.proofs.lemmas.List.Sums.{sum_by-cons}
use Rattle.std.proofs.lemmas.List.Elements.{All-nil, All-cons, All-head, All-tail}
use Rattle.pyd_board.specs.declared.event.Act.{Act}
use Rattle.pyd_board.specs.declared.event.Act.TheVariants.{Place, Claim, Finish, Drop, Refine, Settle, Lose, Trim}
use Rattle.pyd_board.specs.declared.event.Event.{Event}
use Rattle.pyd_board.specs.declared.setup.Loss.{Loss}
use Rattle.pyd_boards.specs.Calls.{is_loss, is_loss_of, number_of}
use Rattle.pyd_runs.specs.Laws.{AreDifferent, IsRunnable, LossLaw, loss_at, losses_in, places_from}
use Rattle.pyd_runs.specs.Plans.{Plan}
use Rattle.pyd_runs.specs.Replay.{IsLegal}
use Rattle.pyd_runs.proofs.NextLost.{all_first}
use Rattle.pyd_runs.proofs.Putting.{test_same}

-- the machine of a loss before those of others
abbrev pub machine_at : Act → List ℕ → List ℕ
machine_at (Lose machine) more = machine ∷ more
machine_at (Place k attempt machine) more = more
machine_at (Claim k attempt machine) more = more
machine_at (Finish k attempt machine) more = more
machine_at (Drop k attempt machine) more = more
machine_at (Refine k) more = more
machine_at (Settle k) more = more
machine_at (Trim k) more = more

-- the machines that events lose
abbrev pub machines_in : List Event → List ℕ
machines_in [] = []
machines_in (e ∷ es) = machine_at e.act (machines_in es)

-- with their places or without
at_same : (k : ℕ) (act : Act) (more : List (ℕ × ℕ)) (machines : List ℕ)
    → map (λ (l : ℕ × ℕ). l.1) more ≡ machines
    → map (λ (l : ℕ × ℕ). l.1) (loss_at k act more) ≡ machine_at act machines
at_same k (Lose machine) more machines is = ap (λ ms. machine ∷ ms) is
at_same k (Place n attempt machine) more machines is = is
at_same k (Claim n attempt machine) more machines is = is
at_same k (Finish n attempt machine) more machines is = is
at_same k (Drop n attempt machine) more machines is = is
at_same k (Refine n) more machines is = is
at_same k (Settle n) more machines is = is
at_same k (Trim n) more machines is = is

machines_same : (k : ℕ) (es : List Event)
    → map (λ (l : ℕ × ℕ). l.1) (losses_in k es) ≡ machines_in es
machines_same k [] = refl
machines_same k (e ∷ es) =
    at_same k e.act (losses_in (suc k) es) (machines_in es) (machines_same (suc k) es)

-- those of the script
machines_due : (next : ℕ) (ls : List Loss)
    → map (λ (l : ℕ × ℕ). l.1) (zip (places_from next ls) (map (λ (l : Loss). l.machine) ls))
    ≡ map (λ (l : Loss). l.machine) ls
machines_due next [] = refl
machines_due next (l ∷ ls) =
    ap (λ ms. l.machine ∷ ms) (machines_due (suc (max next l.event)) ls)

-- the first of a list counts or doesn't
count_first : {X : Type 0} (passes : X → Bool) (x : X) (xs : List X)
    → count_by passes (x ∷ xs) ≡ cond (passes x) 1 0 + count_by passes xs
count_first passes x xs = sum_by-cons (λ y. cond (passes y) 1 0) x xs

-- there are as many losses as machines
count_at : (act : Act) (n : ℕ) (machines : List ℕ) → n ≡ length machines
    → cond (is_loss act) 1 0 + n ≡ length (machine_at act machines)
count_at (Lose machine) n machines is = omega (arith, is)
count_at (Place k attempt machine) n machines is = omega (arith, is)
count_at (Claim k attempt machine) n machines is = omega (arith, is)
count_at (Finish k attempt machine) n machines is = omega (arith, is)
count_at (Drop k attempt machine) n machines is = omega (arith, is)
count_at (Refine k) n machines is = omega (arith, is)
count_at (Settle k) n machines is = omega (arith, is)
count_at (Trim k) n machines is = omega (arith, is)

counted : (es : List Event) → count_by (λ e. is_loss e.act) es ≡ length (machines_in es)
counted [] = refl
counted (e ∷ es) =
    count_first (λ e. is_loss e.act) e es
    ∙ count_at e.act (count_by (λ e. is_loss e.act) es) (machines_in es) (counted es)

-- and as many of a machine as it stands among them
count_of_at : (m : ℕ) (act : Act) (n : ℕ) (machines : List ℕ)
    → n ≡ count_by (λ k. k == m) machines
    → cond (is_loss_of m act) 1 0 + n ≡ count_by (λ k. k == m) (machine_at act machines)
count_of_at m (Lose machine) n machines is =
    ap (λ i. cond (machine == m) 1 0 + i) is
    ∙ sym (count_first (λ k. k == m) machine machines)
count_of_at m (Place k attempt machine) n machines is = omega (arith, is)
count_of_at m (Claim k attempt machine) n machines is = omega (arith, is)
count_of_at m (Finish k attempt machine) n machines is = omega (arith, is)
count_of_at m (Drop k attempt machine) n machines is = omega (arith, is)
count_of_at m (Refine k) n machines is = omega (arith, is)
count_of_at m (Settle k) n machines is = omega (arith, is)
count_of_at m (Trim k) n machines is = omega (arith, is)

counted_of : (m : ℕ) (es : List Event)
    → count_by (λ e. is_loss_of m e.act) es ≡ count_by (λ k. k == m) (machines_in es)
counted_of m [] = refl
counted_of m (e ∷ es) =
    count_first (λ e. is_loss_of m e.act) e es
    ∙ count_of_at m e.act (count_by (λ e. is_loss_of m e.act) es) (machines_in es)
    (counted_of m es)

-- what is so of the machines is so of each loss's
of_each_at : (P : ℕ → Type 0) (act : Act) (machines : List ℕ) → All P (machine_at act machines)
    → (is_loss act ≡ true → P (number_of act)) × All P machines
of_each_at P (Lose machine) machines all =
    ((λ is. All-head P machine machines all), All-tail P machine machines all)
of_each_at P (Place k attempt machine) machines all = ((λ is. absurd (cc (is))), all)
of_each_at P (Claim k attempt machine) machines all = ((λ is. absurd (cc (is))), all)
of_each_at P (Finish k attempt machine) machines all = ((λ is. absurd (cc (is))), all)
of_each_at P (Drop k attempt machine) machines all = ((λ is. absurd (cc (is))), all)
of_each_at P (Refine k) machines all = ((λ is. absurd (cc (is))), all)
of_each_at P (Settle k) machines all = ((λ is. absurd (cc (is))), all)
of_each_at P (Trim k) machines all = ((λ is. absurd (cc (is))), all)

of_each : (P : ℕ → Type 0) (es : List Event) → All P (machines_in es)
    → All (λ e. is_loss e.act ≡ true → P (number_of e.act)) es
of_each P [] all = All-nil _
of_each P (e ∷ es) all =
    let here = of_each_at P e.act (machines_in es) all in
    All-cons (λ (e : Event). is_loss e.act ≡ true → P (number_of e.act)) e es here.0
    (of_each P es here.1)

-- numbers that differ don't pass the test
not_same : (a b : ℕ) → a ≢ b → (a == b) ≡ false
not_same a b apart = by_test (a == b) refl
  where
    by_test : (t : Bool) → (a == b) ≡ t → t ≡ false
    by_test false is = refl
    by_test true is = absurd (apart (test_same a b is))

-- a number that differs from all of some doesn't stand among them
none_of : (m : ℕ) (ls : List Loss) → All (λ (l : Loss). m ≢ l.machine) ls
    → count_by (λ k. k == m) (map (λ (l : Loss). l.machine) ls) ≡ 0
none_of m [] all = refl
none_of m (l ∷ ls) all =
    let first = count_first (λ k. k == m) l.machine (map (λ (l : Loss). l.machine) ls) in
    let test : ◌≡◌ {A = ℕ} (cond (l.machine == m) 1 0) 0
    = ap (λ (t : Bool). cond {A = ℕ} t 1 0) (not_same l.machine m
    (λ same. All-head (λ (l : Loss). m ≢ l.machine) l ls all (sym same))) in
    let rest = none_of m ls (All-tail (λ (l : Loss). m ≢ l.machine) l ls all) in
    omega (arith, first, test, rest)

-- each machine of the script stands there once at most
once : (m : ℕ) (ls : List Loss) → AreDifferent ls
    → count_by (λ k. k == m) (map (λ (l : Loss). l.machine) ls) ≤ 1
once m [] apart = omega arith
once m (l ∷ ls) apart = by_test (l.machine == m) refl (once m ls apart.1)
  where
    by_test : (t : Bool) → (l.machine == m) ≡ t
        → count_by (λ k. k == m) (map (λ (l : Loss). l.machine) ls) ≤ 1
        → count_by (λ k. k == m) (l.machine ∷ map (λ (l : Loss). l.machine) ls) ≤ 1
    by_test false is low =
        let first = count_first (λ k. k == m) l.machine (map (λ (l : Loss). l.machine) ls) in
        let test : ◌≡◌ {A = ℕ} (cond (l.machine == m) 1 0) 0 = ap (λ (t : Bool). cond {A = ℕ} t 1 0) is in
        omega (arith, first, test, low)
    by_test true is low =
        let first = count_first (λ k. k == m) l.machine (map (λ (l : Loss). l.machine) ls) in
        let test : ◌≡◌ {A = ℕ} (cond (l.machine == m) 1 0) 1 = ap (λ (t : Bool). cond {A = ℕ} t 1 0) is in
        let same : count_by (λ k. k == m) (map (λ (l : Loss). l.machine) ls) ≡ 0
        = ap (λ n. count_by (λ k. k == n) (map (λ (l : Loss). l.machine) ls))
        (sym (test_same l.machine m is)) ∙ none_of l.machine ls apart.0 in
        omega (arith, first, test, same)

-- what is so of each loss of a script is so of its machines
of_machines : (P : ℕ → Type 0) (ls : List Loss) → All (λ (l : Loss). P l.machine) ls
    → All P (map (λ (l : Loss). l.machine) ls)
of_machines P [] all = All-nil P
of_machines P (l ∷ ls) all =
    All-cons P l.machine (map (λ (l : Loss). l.machine) ls)
    (All-head (λ (l : Loss). P l.machine) l ls all)
    (of_machines P ls (All-tail (λ (l : Loss). P l.machine) l ls all))

-- the first of numbers have no more of one than all have
fewer : (m : ℕ) (ms more : List ℕ)
    → count_by (λ k. k == m) ms ≤ count_by (λ k. k == m) (ms ++ more)
fewer m [] more = omega arith
fewer m (n ∷ ms) more =
    let rest = fewer m ms more in
    let first = count_first (λ k. k == m) n ms in
    let both = count_first (λ k. k == m) n (ms ++ more) in
    omega (arith, rest, first, both)

length_machines : (ls : List Loss) → length (map (λ (l : Loss). l.machine) ls) ≡ length ls
length_machines [] = refl
length_machines (l ∷ ls) = ap suc (length_machines ls)

-- the losses of a legal run
pub record AreFew (p : Plan) (es : List Event) : Type 0 where
  pub count : count_by (λ e. is_loss e.act) es ≤ length p.setup.losses
  pub machines : All (λ e. is_loss e.act ≡ true → number_of e.act < p.setup.machines) es
  pub different : (m : ℕ) → count_by (λ e. is_loss_of m e.act) es ≤ 1

pub few_losses : LossLaw → (p : Plan) (es : List Event) → IsRunnable p → IsLegal p es
    → AreFew p es
few_losses law p es runnable legal =
    let at = law p es runnable legal in
    let ls = p.setup.losses in
    let rest : List ℕ = map (λ (l : ℕ × ℕ). l.1) at.more in
    let whole : map (λ (l : Loss). l.machine) ls ≡ machines_in es ++ rest
    = sym (machines_due 0 ls) ∙ ap (map (λ (l : ℕ × ℕ). l.1)) at.first
    ∙ map-append (λ (l : ℕ × ℕ). l.1) (losses_in 0 es) at.more
    ∙ ap (λ ms. ms ++ rest) (machines_same 0 es) in
    record {
      count =
          let all = ap length whole in
          let parts = length-append (machines_in es) rest in
          let script = length_machines ls in
          let here = counted es in
          omega (arith, all, parts, script, here);
      machines = of_each (λ m. m < p.setup.machines) es
          (all_first (λ (m : ℕ). m < p.setup.machines) (machines_in es) rest
          (subst (All (λ (m : ℕ). m < p.setup.machines)) whole
          (of_machines (λ (m : ℕ). m < p.setup.machines) ls runnable.machines)));
      different = λ m.
          let here = counted_of m es in
          let some = fewer m (machines_in es) rest in
          let all = ap (count_by (λ k. k == m)) whole in
          let one = once m ls runnable.different in
          omega (arith, here, some, all, one);
    }
