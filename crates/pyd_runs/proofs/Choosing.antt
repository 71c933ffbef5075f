-- The list of acts that may come has exactly those.
use Rattle.std.proofs.Common.{◌≡◌, ◌<◌, ◌==◌, ℕ, zero, suc, Bool, true, false, cond, List, [], ◌∷◌, ◌++◌, Option, None, Some, inl, inr, refl, ap, sym, ◌∙◌, subst, arith}
use Rattle.std.specs.List.{All, Contains, flat_map, list_any}
use Rattle.std.proofs.lemmas.List.Elements.{All-head, All-tail, Contains-append_left, Contains-append_right, Contains-append_cases, Contains-push, Contains-push_cases}
use Rattle.pyd_board.specs.declared.event.Act.{Act}
use Rattle.pyd_board.specs.declared.event.Act.TheVariants.{Place, Claim, Finish, Drop, Refine, Settle, Lose, Trim}
use Rattle.pyd_board.specs.declared.setup.Loss.{Loss}
use Rattle.pyd_refine.proofs.Ordering.{one-true}
use Rattle.pyd_runs.specs.Plans.{Plan, first_seat}
use Rattle.pyd_runs.specs.Desks.{Placed, Held}
use Rattle.pyd_runs.specs.Effects.{State, first_state}
use Rattle.pyd_runs.specs.Enabled.{Lives, IsQuiet, Holds, CanAct}
use Rattle.pyd_runs.specs.Replay.{after}
use Rattle.pyd_runs.specs.Sound.{IsSound}
use Rattle.pyd_runs.specs.Laws.{IsRunnable}
use Rattle.pyd_runs.specs.Deciding.{may_place, may_refine, may_settle, may_trim}
use Rattle.pyd_runs.specs.Choices.{below, on_live, places, claims, finishes, drops_one, drops, of_each, choices, ChoicesLaw}
use Rattle.pyd_runs.proofs.Putting.{same_test, test_same, test_other}
use Rattle.pyd_runs.proofs.Going.{first_of}
use Rattle.pyd_runs.proofs.Named.{AreMade, none_made, run_made, act_below}
use Rattle.pyd_runs.proofs.Running.{run_keeps}
use Rattle.pyd_runs.proofs.Starting.{starts}
use Rattle.pyd_runs.proofs.Releasing.{holds_by, claim_by}
use Rattle.pyd_runs.proofs.NextLost.{all_first}
use Rattle.pyd_runs.proofs.Testing.{tells_places, tells_refines, tells_settles, tells_trims}

-- an element of a list of one
pub one_in : {A : Type 0} (y x : A) → Contains (y ∷ []) x → y ≡ x
one_in y x (zero, within, is) = is
one_in y x (suc k, within, is) = absurd (omega (arith, within))

pub the_one : {A : Type 0} (x : A) → Contains (x ∷ []) x
the_one x = (0, omega arith, refl)

pub none_in : {A : Type 0} (x : A) → Contains [] x → ⊥
none_in x (k, within, is) = absurd (omega (arith, within))

-- an element of what a function gives of some
pub in_flat : {X A : Type 0} (f : X → List A) (xs : List X) (a : A) → Contains (flat_map f xs) a
    → (x : X) × Contains xs x × Contains (f x) a
in_flat f [] a at = absurd (none_in a at)
in_flat f (x ∷ xs) a at = elim (Contains-append_cases (f x) (flat_map f xs) a at) [
  | inl here ↦ (x, Contains-append_left (x ∷ []) xs x (the_one x), here)
  | inr later ↦
      let r = in_flat f xs a later in
      (r.0, Contains-append_right (x ∷ []) xs r.0 r.1, r.2)
]

by_flat : {X A : Type 0} (f : X → List A) (xs : List X) (x : X) (a : A) → Contains xs x
    → Contains (f x) a → Contains (flat_map f xs) a
by_flat f [] x a at is = absurd (none_in x at)
by_flat f (y ∷ xs) x a at is = elim (Contains-append_cases (y ∷ []) xs x at) [
  | inl here ↦
      Contains-append_left (f y) (flat_map f xs) a
      (subst (λ z. Contains (f z) a) (sym (one_in y x here)) is)
  | inr later ↦ Contains-append_right (f y) (flat_map f xs) a (by_flat f xs x a later is)
]

-- the numbers below one
pub in_below : (n m : ℕ) → Contains (below n) m → m < n
in_below zero m at = absurd (none_in m at)
in_below (suc n) m at = elim (Contains-push_cases (below n) n m at) [
  | inl before ↦ let low = in_below n m before in omega (arith, low)
  | inr last ↦ omega (arith, last)
]

by_below : (n m : ℕ) → m < n → Contains (below n) m
by_below zero m low = absurd (omega (arith, low))
by_below (suc n) m low =
    by_test (n == m) refl (λ is. by_below n m (let other = test_other n m is in
    omega (arith, low, other)))
  where
    by_test : (b : Bool) → (n == m) ≡ b → ((n == m) ≡ false → Contains (below n) m)
        → Contains (below n ++ n ∷ []) m
    by_test true is rest =
        subst (Contains (below n ++ n ∷ [])) (test_same n m is) (Contains-push (below n) n)
    by_test false is rest = Contains-append_left (below n) (n ∷ []) m (rest is)

-- what stands under a test
pub in_met : {A : Type 0} (b : Bool) (xs : List A) (x : A) → Contains (cond b xs []) x
    → (b ≡ true) × Contains xs x
in_met true xs x at = (refl, at)
in_met false xs x at = absurd (none_in x at)

by_met : {A : Type 0} (b : Bool) (xs : List A) (x : A) → b ≡ true → Contains xs x
    → Contains (cond b xs []) x
by_met true xs x is at = at
by_met false xs x is at = absurd (cc (is))

pub in_unmet : {A : Type 0} (b : Bool) (xs : List A) (x : A) → Contains (cond b [] xs) x
    → (b ≡ false) × Contains xs x
in_unmet true xs x at = absurd (none_in x at)
in_unmet false xs x at = (refl, at)

by_unmet : {A : Type 0} (b : Bool) (xs : List A) (x : A) → b ≡ false → Contains xs x
    → Contains (cond b [] xs) x
by_unmet true xs x is at = absurd (cc (is))
by_unmet false xs x is at = at

-- an entry of a list of losses that names a machine
named_below : (count machine : ℕ) (losses : List Loss)
    → list_any (λ (l : Loss). l.machine == machine) losses ≡ true
    → All (λ (l : Loss). l.machine < count) losses → machine < count
named_below count machine [] is all = absurd (cc (is))
named_below count machine (l ∷ losses) is all =
    elim (one-true (l.machine == machine)
    (list_any (λ (x : Loss). x.machine == machine) losses) is) [
      | inl here ↦ subst (λ m. m < count) (test_same l.machine machine here)
          (All-head (λ (x : Loss). x.machine < count) l losses all)
      | inr later ↦ named_below count machine losses later
          (All-tail (λ (x : Loss). x.machine < count) l losses all)
    ]

module _ (p : Plan) (s : State) (runnable : IsRunnable p) (sound : IsSound p s) (made : AreMade s)
    (quiet : IsQuiet s) where
  in_live : (f : ℕ → Act) (act : Act) → Contains (on_live p s f) act
      → (m : ℕ) × Lives p s.lost m × (f m ≡ act)
  in_live f act at =
      let r = in_flat (λ m. cond (s.lost m) [] (f m ∷ [])) (below p.setup.machines) act at in
      let u = in_unmet (s.lost r.0) (f r.0 ∷ []) act r.2 in (
        r.0,
        record { is_machine = in_below p.setup.machines r.0 r.1; not_lost = u.0 },
        one_in (f r.0) act u.1,
      )

  by_live : (f : ℕ → Act) (m : ℕ) → Lives p s.lost m → Contains (on_live p s f) (f m)
  by_live f m lives =
      by_flat (λ i. cond (s.lost i) [] (f i ∷ [])) (below p.setup.machines) m (f m)
      (by_below p.setup.machines m lives.is_machine)
      (by_unmet (s.lost m) (f m ∷ []) (f m) lives.not_lost (the_one (f m)))

  -- by what they do
  places_may : (k : ℕ) (act : Act) → Contains (places p s k) act
      → (seat : ℕ) × CanAct p s seat act
  places_may k act at =
      let a = in_met (may_place s k) (on_live p s (Place k (suc (s.desk.places k)))) act at in
      let l = in_live (Place k (suc (s.desk.places k))) act a.1 in
      (0, subst (CanAct p s 0) l.2 (quiet, (tells_places p s k sound).may a.0 l.0 l.1))

  claims_may : (k : ℕ) (o : Option Placed) (act : Act) → s.desk.ticket k ≡ o
      → Contains (claims p s k o) act → (seat : ℕ) × CanAct p s seat act
  claims_may k None act is at = absurd (none_in act at)
  claims_may k (Some t) act is at =
      let l = in_live (Claim k t.attempt) act at in (
        first_seat p l.0,
        subst (CanAct p s (first_seat p l.0)) l.2 (
          quiet,
          record {
            ticket = t;
            is_live = is;
            of_attempt = refl;
            lives = l.1;
            by_seat = first_of p l.0 runnable.workers;
          },
        ),
      )

  finishes_may : (k : ℕ) (o : Option Held) (act : Act) → s.desk.claim k ≡ o
      → Contains (finishes s k o) act → (seat : ℕ) × CanAct p s seat act
  finishes_may k None act is at = absurd (none_in act at)
  finishes_may k (Some c) act is at =
      let u = in_unmet (s.lost c.machine) (Finish k c.attempt c.machine ∷ []) act at in (
        c.seat,
        subst (CanAct p s c.seat) (one_in (Finish k c.attempt c.machine) act u.1) (
          quiet,
          record {
            holds = holds_by (s.desk.claim k) c.seat c.attempt c.machine c is
                (record { of_attempt = refl; on_machine = refl; by_seat = refl });
            lives = sound.desk.claim_lives k c is;
          },
        ),
      )

  drops_one_may : (k m a : ℕ) (o : Option Held) (act : Act) → s.desk.undone k a ≡ o
      → Contains (drops_one k m o) act → (seat : ℕ) × CanAct p s seat act
  drops_one_may k m a None act is at = absurd (none_in act at)
  drops_one_may k m a (Some c) act is at =
      let u = in_met (c.machine == m) (Drop k c.attempt m ∷ []) act at in (
        c.seat,
        subst (CanAct p s c.seat) (one_in (Drop k c.attempt m) act u.1)
            (inl (
              (λ on. quiet.none_due),
              holds_by (s.desk.undone k c.attempt) c.seat c.attempt m c
                  (ap (s.desk.undone k) (sound.desk.undone_attempt k a c is) ∙ is)
                  (record { of_attempt = refl; on_machine = test_same c.machine m u.0; by_seat = refl }),
            )),
      )

  drops_may : (k : ℕ) (act : Act) → Contains (drops p s k) act
      → (seat : ℕ) × CanAct p s seat act
  drops_may k act at =
      let r = in_flat (λ m. flat_map (λ a. drops_one k m (s.desk.undone k a))
      (below (suc (s.desk.places k)))) (below p.setup.machines) act at in
      let q = in_flat (λ a. drops_one k r.0 (s.desk.undone k a)) (below (suc (s.desk.places k))) act
      r.2 in
      drops_one_may k r.0 q.0 (s.desk.undone k q.0) act refl q.2

  refines_may : (k : ℕ) (act : Act) → Contains (cond (may_refine p s k) (Refine k ∷ []) []) act
      → (seat : ℕ) × CanAct p s seat act
  refines_may k act at =
      let a = in_met (may_refine p s k) (Refine k ∷ []) act at in
      (0, subst (CanAct p s 0) (one_in (Refine k) act a.1) (quiet, (tells_refines p s k sound).0 a.0))

  settles_may : (k : ℕ) (act : Act) → Contains (cond (may_settle s k) (Settle k ∷ []) []) act
      → (seat : ℕ) × CanAct p s seat act
  settles_may k act at =
      let a = in_met (may_settle s k) (Settle k ∷ []) act at in
      (0, subst (CanAct p s 0) (one_in (Settle k) act a.1) (quiet, (tells_settles s k).0 a.0))

  trims_may : (k : ℕ) (act : Act) → Contains (cond (may_trim s k) (Trim k ∷ []) []) act
      → (seat : ℕ) × CanAct p s seat act
  trims_may k act at =
      let a = in_met (may_trim s k) (Trim k ∷ []) act at in
      (0, subst (CanAct p s 0) (one_in (Trim k) act a.1) (quiet, (tells_trims p s k sound).0 a.0))

  -- of all nodes
  each_may : (acts : ℕ → List Act) (act : Act)
      → ((k : ℕ) → Contains (acts k) act → (seat : ℕ) × CanAct p s seat act)
      → Contains (of_each s acts) act → (seat : ℕ) × CanAct p s seat act
  each_may acts act may at =
      let r = in_flat acts (below s.graph.next) act at in may r.0 r.2

  -- one of the first or of the others
  either_may : (xs ys : List Act) (act : Act)
      → (Contains xs act → (seat : ℕ) × CanAct p s seat act)
      → (Contains ys act → (seat : ℕ) × CanAct p s seat act) → Contains (xs ++ ys) act
      → (seat : ℕ) × CanAct p s seat act
  either_may xs ys act first more at = elim (Contains-append_cases xs ys act at) [
    | inl here ↦ first here
    | inr later ↦ more later
  ]

  choices_may : (act : Act) → Contains (choices p s) act → (seat : ℕ) × CanAct p s seat act
  choices_may act =
      either_may (of_each s (places p s)) _ act
      (each_may (places p s) act (λ k. places_may k act))
      (either_may (of_each s (λ k. claims p s k (s.desk.ticket k))) _ act
      (each_may (λ k. claims p s k (s.desk.ticket k)) act
      (λ k. claims_may k (s.desk.ticket k) act refl))
      (either_may (of_each s (λ k. finishes s k (s.desk.claim k))) _ act
      (each_may (λ k. finishes s k (s.desk.claim k)) act
      (λ k. finishes_may k (s.desk.claim k) act refl))
      (either_may (of_each s (drops p s)) _ act (each_may (drops p s) act (λ k. drops_may k act))
      (either_may (of_each s (λ k. cond (may_refine p s k) (Refine k ∷ []) [])) _ act
      (each_may (λ k. cond (may_refine p s k) (Refine k ∷ []) []) act (λ k. refines_may k act))
      (either_may (of_each s (λ k. cond (may_settle s k) (Settle k ∷ []) []))
      (of_each s (λ k. cond (may_trim s k) (Trim k ∷ []) [])) act
      (each_may (λ k. cond (may_settle s k) (Settle k ∷ []) []) act (λ k. settles_may k act))
      (each_may (λ k. cond (may_trim s k) (Trim k ∷ []) []) act (λ k. trims_may k act)))))))

  -- a lost machine is one of the plan's
  lost_below : (machine : ℕ) → s.lost machine ≡ true → machine < p.setup.machines
  lost_below machine is =
      let c = sound.scripted in
      named_below p.setup.machines machine c.done (sym (c.machines machine) ∙ is)
      (all_first (λ (l : Loss). l.machine < p.setup.machines) c.done s.losses
      (subst (All (λ (l : Loss). l.machine < p.setup.machines)) c.script runnable.machines))

  -- the act of a node stands among those of all
  by_each : (acts : ℕ → List Act) (k : ℕ) (act : Act) → k < s.graph.next → Contains (acts k) act
      → Contains (of_each s acts) act
  by_each acts k act low at =
      by_flat acts (below s.graph.next) k act (by_below s.graph.next k low) at

  claims_all : (k a m : ℕ) (o : Option Placed) (t : Placed) → o ≡ Some t → t.attempt ≡ a
      → Lives p s.lost m → Contains (claims p s k o) (Claim k a m)
  claims_all k a m None t is of lives = absurd (cc (is))
  claims_all k a m (Some q) t is of lives =
      let z : q ≡ t = cc (is) in
      subst (λ i. Contains (on_live p s (Claim k q.attempt)) (Claim k i m))
      (ap (λ (x : Placed). x.attempt) z ∙ of) (by_live (Claim k q.attempt) m lives)

  finishes_all : (k seat a m : ℕ) (o : Option Held) → Holds o seat a m → s.lost m ≡ false
      → Contains (finishes s k o) (Finish k a m)
  finishes_all k seat a m None holds lives = absurd holds
  finishes_all k seat a m (Some c) holds lives =
      let is : Finish k c.attempt c.machine ≡ Finish k a m
      = ap (λ i. Finish k i c.machine) holds.of_attempt ∙ ap (Finish k a) holds.on_machine in
      by_unmet (s.lost c.machine) (Finish k c.attempt c.machine ∷ []) (Finish k a m)
      (ap s.lost holds.on_machine ∙ lives)
      (subst (Contains (Finish k c.attempt c.machine ∷ [])) is
      (the_one (Finish k c.attempt c.machine)))

  drops_one_all : (k seat a m : ℕ) (o : Option Held) → Holds o seat a m
      → Contains (drops_one k m o) (Drop k a m)
  drops_one_all k seat a m None holds = absurd holds
  drops_one_all k seat a m (Some c) holds =
      by_met (c.machine == m) (Drop k c.attempt m ∷ []) (Drop k a m)
      (same_test c.machine m holds.on_machine)
      (subst (λ i. Contains (Drop k c.attempt m ∷ []) (Drop k i m)) holds.of_attempt
      (the_one (Drop k c.attempt m)))

  drops_all : (k seat a m : ℕ) → Holds (s.desk.undone k a) seat a m
      → Contains (drops p s k) (Drop k a m)
  drops_all k seat a m holds =
      let c = claim_by (s.desk.undone k a) seat a m holds in
      let lost : s.lost m ≡ true
      = sym (ap s.lost c.2.on_machine) ∙ sound.desk.undone_lost k a c.0 c.1 in
      let few = sound.attempts.undone k a c.0 c.1 in
      by_flat (λ i. flat_map (λ b. drops_one k i (s.desk.undone k b))
      (below (suc (s.desk.places k)))) (below p.setup.machines) m (Drop k a m)
      (by_below p.setup.machines m (lost_below m lost))
      (by_flat (λ b. drops_one k m (s.desk.undone k b)) (below (suc (s.desk.places k))) a
      (Drop k a m) (by_below (suc (s.desk.places k)) a (omega (arith, few)))
      (drops_one_all k seat a m (s.desk.undone k a) holds))

  -- those of each kind, and with those of the kinds behind it
  abbrev places_row : List Act
  places_row = of_each s (places p s)

  abbrev claims_row : List Act
  claims_row = of_each s (λ k. claims p s k (s.desk.ticket k))

  abbrev finishes_row : List Act
  finishes_row = of_each s (λ k. finishes s k (s.desk.claim k))

  abbrev drops_row : List Act
  drops_row = of_each s (drops p s)

  abbrev refines_row : List Act
  refines_row = of_each s (λ k. cond (may_refine p s k) (Refine k ∷ []) [])

  abbrev settles_row : List Act
  settles_row = of_each s (λ k. cond (may_settle s k) (Settle k ∷ []) [])

  abbrev trims_row : List Act
  trims_row = of_each s (λ k. cond (may_trim s k) (Trim k ∷ []) [])

  abbrev from_settles : List Act
  from_settles = settles_row ++ trims_row

  abbrev from_refines : List Act
  from_refines = refines_row ++ from_settles

  abbrev from_drops : List Act
  from_drops = drops_row ++ from_refines

  abbrev from_finishes : List Act
  from_finishes = finishes_row ++ from_drops

  abbrev from_claims : List Act
  from_claims = claims_row ++ from_finishes

  -- what stands behind a kind stands in all
  behind_places : (act : Act) → Contains from_claims act → Contains (choices p s) act
  behind_places act at = Contains-append_right places_row from_claims act at

  behind_claims : (act : Act) → Contains from_finishes act → Contains (choices p s) act
  behind_claims act at =
      behind_places act (Contains-append_right claims_row from_finishes act at)

  behind_finishes : (act : Act) → Contains from_drops act → Contains (choices p s) act
  behind_finishes act at =
      behind_claims act (Contains-append_right finishes_row from_drops act at)

  behind_drops : (act : Act) → Contains from_refines act → Contains (choices p s) act
  behind_drops act at =
      behind_finishes act (Contains-append_right drops_row from_refines act at)

  behind_refines : (act : Act) → Contains from_settles act → Contains (choices p s) act
  behind_refines act at =
      behind_drops act (Contains-append_right refines_row from_settles act at)

  choices_all : (seat : ℕ) (act : Act) → CanAct p s seat act → Contains (choices p s) act
  choices_all seat (Place k a m) can =
      let low = act_below p s seat (Place k a m) k sound made can refl in
      let test = (tells_places p s k sound).only a m can.1 in
      Contains-append_left places_row from_claims (Place k a m)
      (by_each (places p s) k (Place k a m) low
      (by_met (may_place s k) (on_live p s (Place k (suc (s.desk.places k)))) (Place k a m) test
      (subst (λ i. Contains (on_live p s (Place k (suc (s.desk.places k)))) (Place k i m))
      (sym can.1.next_attempt) (by_live (Place k (suc (s.desk.places k))) m can.1.lives))))
  choices_all seat (Claim k a m) can =
      let low = act_below p s seat (Claim k a m) k sound made can refl in
      behind_places (Claim k a m) (Contains-append_left claims_row from_finishes (Claim k a m)
      (by_each (λ i. claims p s i (s.desk.ticket i)) k (Claim k a m) low
      (claims_all k a m (s.desk.ticket k) can.1.ticket can.1.is_live can.1.of_attempt can.1.lives)))
  choices_all seat (Finish k a m) can =
      let low = act_below p s seat (Finish k a m) k sound made can refl in
      behind_claims (Finish k a m) (Contains-append_left finishes_row from_drops (Finish k a m)
      (by_each (λ i. finishes s i (s.desk.claim i)) k (Finish k a m) low
      (finishes_all k seat a m (s.desk.claim k) can.1.holds can.1.lives.not_lost)))
  choices_all seat (Drop k a m) (inl undone) =
      let low = act_below p s seat (Drop k a m) k sound made (inl undone) refl in
      behind_finishes (Drop k a m) (Contains-append_left drops_row from_refines (Drop k a m)
      (by_each (drops p s) k (Drop k a m) low (drops_all k seat a m undone.1)))
  choices_all seat (Drop k a m) (inr left) =
      absurd (let on = quiet.goes_on in let end = left.1 in cc (on, end))
  choices_all seat (Refine k) can =
      let low = act_below p s seat (Refine k) k sound made can refl in
      behind_drops (Refine k) (Contains-append_left refines_row from_settles (Refine k)
      (by_each (λ i. cond (may_refine p s i) (Refine i ∷ []) []) k (Refine k) low
      (by_met (may_refine p s k) (Refine k ∷ []) (Refine k) ((tells_refines p s k sound).1 can.1)
      (the_one (Refine k)))))
  choices_all seat (Settle k) can =
      let low = act_below p s seat (Settle k) k sound made can refl in
      behind_refines (Settle k) (Contains-append_left settles_row trims_row (Settle k)
      (by_each (λ i. cond (may_settle s i) (Settle i ∷ []) []) k (Settle k) low
      (by_met (may_settle s k) (Settle k ∷ []) (Settle k) ((tells_settles s k).1 can.1)
      (the_one (Settle k)))))
  choices_all seat (Lose m) can =
      absurd (let none = quiet.none_due in let due = can.is_due in cc (none, due))
  choices_all seat (Trim k) can =
      let low = act_below p s seat (Trim k) k sound made can refl in
      behind_refines (Trim k) (Contains-append_right settles_row trims_row (Trim k)
      (by_each (λ i. cond (may_trim s i) (Trim i ∷ []) []) k (Trim k) low
      (by_met (may_trim s k) (Trim k ∷ []) (Trim k) ((tells_trims p s k sound).1 can.1)
      (the_one (Trim k)))))

-- the law
pub have_choices : ChoicesLaw
have_choices p es runnable legal quiet =
    let s = after p (first_state p) es in
    let sound = run_keeps p es runnable legal in
    let made = run_made p (first_state p) es (starts p runnable) (none_made p) legal in
    record {
      may = choices_may p s runnable sound made quiet;
      all = choices_all p s runnable sound made quiet;
    }
