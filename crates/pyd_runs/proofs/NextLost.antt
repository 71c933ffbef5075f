-- Which losses come due one after another, and which have come.
use Rattle.std.proofs.Common.{◌≡◌, ◌+◌, ◌==◌, ℕ, zero, suc, List, [], ◌∷◌, ◌++◌, length, length-append, drop, Bool, true, false, ◌||◌, cond, if◌then◌else◌, Option, None, Some, refl, ap, sym, ◌∙◌, arith}
use Rattle.std.specs.Prelude.{nat_le}
use Rattle.std.specs.List.{All, list_any}
use Rattle.std.proofs.lemmas.List.{append-nil}
use Rattle.std.proofs.lemmas.List.Elements.{All-nil, All-cons, All-head, All-tail, All-same}
use Rattle.std.proofs.lemmas.List.Sums.{sum_by-cons}
use Rattle.pyd_board.specs.declared.event.Act.{Act}
use Rattle.pyd_board.specs.declared.event.Act.TheVariants.{Place, Claim, Finish, Drop, Refine, Settle, Lose, Trim}
use Rattle.pyd_board.specs.declared.event.Event.{Event}
use Rattle.pyd_board.specs.declared.setup.Loss.{Loss}
use Rattle.pyd_board.specs.Histories.{entries}
use Rattle.pyd_ir.specs.Meaning.{job_ran}
use Rattle.pyd_runs.specs.Plans.{Plan, IsSeat, limits_of}
use Rattle.pyd_runs.specs.Desks.{Held}
use Rattle.pyd_runs.specs.Losses.{due_at}
use Rattle.pyd_runs.specs.Effects.{State, first_state, acted, happens, finished_by, is_run, kept_by_driver, kept_by_machine}
use Rattle.pyd_runs.specs.Enabled.{CanAct, IsLoss, due}
use Rattle.pyd_runs.specs.Replay.{after, replay, IsLegal, IsLegalFrom}
use Rattle.pyd_runs.specs.Bounds.{is_loss, losses_of}
use Rattle.pyd_runs.specs.NextLosses.{due_after, loses, first_losses, DueLaw, OnlyDueLaw, LossSeatLaw, is_lost_by, LeftLaw}
use Rattle.pyd_runs.proofs.Beginnings.{legal_parts, journal_whole}
use Rattle.pyd_runs.proofs.Trims.{one_more}

-- what is true of all of two lists is true of the first, and of the second
pub all_first : {X : Type 0} (P : X → Type 0) (xs ys : List X) → All P (xs ++ ys) → All P xs
all_first P [] ys h = All-nil P
all_first P (x ∷ xs) ys h =
    All-cons P x xs (All-head P x (xs ++ ys) h) (all_first P xs ys (All-tail P x (xs ++ ys) h))

all_second : {X : Type 0} (P : X → Type 0) (xs ys : List X) → All P (xs ++ ys) → All P ys
all_second P [] ys h = h
all_second P (x ∷ xs) ys h = all_second P xs ys (All-tail P x (xs ++ ys) h)

-- the journal behind one event more
longer : (es : List Event) (e : Event) (n : ℕ) → n ≡ length es → suc n ≡ length (es ++ e ∷ [])
longer es e n is = let all = length-append es (e ∷ []) in omega (arith, is, all)

-- behind the losses that come due none is due
none_behind : (p : Plan) (s : State) (seat nth n : ℕ) (ls : List Loss) → n ≡ length s.journal
    → s.losses ≡ ls → due (after p s (loses seat nth (due_after n ls))) ≡ None
unfolding after happens acted
none_behind p s seat nth n [] long is = ap (due_at (length s.journal)) is
none_behind p s seat nth n (l ∷ ls) long is =
    let e : Event = record { by = seat; nth = nth; act = Lose l.machine } in
    by_test (nat_le l.event n) refl
    (none_behind p (happens p s e) seat (suc nth) (suc n) ls (longer s.journal e n long)
    (ap (drop 1) is))
  where
    by_test : (b : Bool) → nat_le l.event n ≡ b
        → due (after p (happens p s (record { by = seat; nth = nth; act = Lose l.machine }))
        (loses seat (suc nth) (due_after (suc n) ls))) ≡ None
        → due (after p s (loses seat nth (cond b (l.machine ∷ due_after (suc n) ls) []))) ≡ None
    by_test false test rest =
        ap (λ (i : ℕ). due_at i s.losses) (sym long) ∙ ap (due_at n) is
        ∙ ap (λ b. cond b (Some l.machine) None) test
    by_test true test rest = rest

-- events that may come from a state on, in which the run goes on
record GoOn (p : Plan) (s : State) (es : List Event) : Type 0 where
  legal : IsLegalFrom p s es
  goes_on : (after p s es).graph.end ≡ None

-- the losses that come due may come
due_go_on : (p : Plan) (s : State) (seat nth n : ℕ) (ls : List Loss) → IsSeat p seat
    → s.graph.end ≡ None → (All (λ (e : Event). IsLoss e.act) s.journal → seat ≡ 0)
    → nth ≡ entries seat s.journal → n ≡ length s.journal → s.losses ≡ ls
    → GoOn p s (loses seat nth (due_after n ls))
unfolding after happens acted IsLegalFrom
due_go_on p s seat nth n [] is_seat on by count long is = record { legal = tt; goes_on = on }
due_go_on p s seat nth n (l ∷ ls) is_seat on by count long is =
    let e : Event = record { by = seat; nth = nth; act = Lose l.machine } in
    by_test (nat_le l.event n) refl
    (due_go_on p (happens p s e) seat (suc nth) (suc n) ls is_seat on
    (λ all. by (all_first (λ (x : Event). IsLoss x.act) s.journal (e ∷ []) all))
    (ap suc count ∙ sym (one_more seat s.journal e refl))
    (longer s.journal e n long) (ap (drop 1) is))
  where
    by_test : (b : Bool) → nat_le l.event n ≡ b
        → GoOn p (happens p s (record { by = seat; nth = nth; act = Lose l.machine }))
        (loses seat (suc nth) (due_after (suc n) ls))
        → GoOn p s (loses seat nth (cond b (l.machine ∷ due_after (suc n) ls) []))
    by_test false test rest = record { legal = tt; goes_on = on }
    by_test true test rest = record {
      legal = (
        record {
          seat = is_seat;
          nth = count;
          act = record {
            goes_on = on;
            is_due =
                ap (λ (i : ℕ). due_at i s.losses) (sym long) ∙ ap (due_at n) is
                ∙ ap (λ b. cond b (Some l.machine) None) test;
            by = by;
          };
        },
        rest.legal,
      );
      goes_on = rest.goes_on;
    }

-- the law
pub come_due : DueLaw
come_due p s seat is_seat on by =
    let g = due_go_on p s seat (entries seat s.journal) (length s.journal) s.losses is_seat on by
    refl refl refl in
    record {
      legal = g.legal;
      goes_on = g.goes_on;
      none_left = none_behind p s seat (entries seat s.journal) (length s.journal) s.losses refl refl;
    }

-- where none is due, none comes
none_come : (n : ℕ) (ls : List Loss) → due_at n ls ≡ None → due_after n ls ≡ []
none_come n [] none = refl
none_come n (l ∷ ls) none = by_test (nat_le l.event n) none
  where
    by_test : (b : Bool) → cond b (Some l.machine) None ≡ None
        → cond b (l.machine ∷ due_after (suc n) ls) [] ≡ []
    by_test true is = absurd (cc (is))
    by_test false is = refl

-- where one is due, it comes first
some_comes : (n machine : ℕ) (ls : List Loss) → due_at n ls ≡ Some machine
    → due_after n ls ≡ machine ∷ due_after (suc n) (drop 1 ls)
some_comes n machine [] some = absurd (cc (some))
some_comes n machine (l ∷ ls) some = by_test (nat_le l.event n) some
  where
    by_test : (b : Bool) → cond b (Some l.machine) None ≡ Some machine
        → cond b (l.machine ∷ due_after (suc n) ls) [] ≡ machine ∷ due_after (suc n) ls
    by_test true is =
        let same : l.machine ≡ machine = cc (is) in ap (λ m. m ∷ due_after (suc n) ls) same
    by_test false is = absurd (cc (is))

-- a loss that may come is the one that is due
loss_due : (p : Plan) (s : State) (seat : ℕ) (act : Act) → CanAct p s seat act → IsLoss act
    → (machine : ℕ) × (act ≡ Lose machine) × (due s ≡ Some machine)
loss_due p s seat (Lose m) can is = (m, refl, can.is_due)
loss_due p s seat (Place k a m) can is = absurd is
loss_due p s seat (Claim k a m) can is = absurd is
loss_due p s seat (Finish k a m) can is = absurd is
loss_due p s seat (Drop k a m) can is = absurd is
loss_due p s seat (Refine k) can is = absurd is
loss_due p s seat (Settle k) can is = absurd is
loss_due p s seat (Trim k) can is = absurd is

-- an event, by what it has
event_is : (e : Event) (seat nth : ℕ) (act : Act) → e.by ≡ seat → e.nth ≡ nth → e.act ≡ act
    → e ≡ record { by = seat; nth = nth; act = act }
event_is e seat nth act by count is =
    ap (λ (b : ℕ). record { by = b; nth = e.nth; act = e.act }) by
    ∙ ap (λ (n : ℕ). record { by = seat; nth = n; act = e.act }) count
    ∙ ap (λ (a : Act). record { by = seat; nth = nth; act = a }) is

-- the law
pub only_due : OnlyDueLaw
unfolding after happens acted IsLegalFrom
only_due p s seat [] legal losses own none =
    sym (ap (loses seat (entries seat s.journal)) (none_come (length s.journal) s.losses none))
only_due p s seat (e ∷ es) legal losses own none =
    let is = loss_due p s e.by e.act legal.0.act (All-head (λ (x : Event). IsLoss x.act) e es losses) in
    let by : e.by ≡ seat = All-head (λ (x : Event). x.by ≡ seat) e es own in
    let count : e.nth ≡ entries seat s.journal
    = legal.0.nth ∙ ap (λ (b : ℕ). entries b s.journal) by in
    let gone : (happens p s e).losses ≡ drop 1 s.losses
    = ap (λ (a : Act). (acted p s e.by a).losses) is.1 in
    let rest = only_due p (happens p s e) seat es legal.1
    (All-tail (λ (x : Event). IsLoss x.act) e es losses)
    (All-tail (λ (x : Event). x.by ≡ seat) e es own) none in
    let first = event_is e seat (entries seat s.journal) (Lose is.0) by count is.1 in
    let more : es ≡ loses seat (suc (entries seat s.journal)) (due_after (suc (length s.journal)) (drop 1 s.losses))
    = rest ∙ ap (λ (n : ℕ). loses seat n (due_after (length (s.journal ++ e ∷ [])) (happens p s e).losses))
    (one_more seat s.journal e by)
    ∙ ap (λ (n : ℕ). loses seat (suc (entries seat s.journal)) (due_after n (happens p s e).losses))
    (sym (longer s.journal e (length s.journal) refl))
    ∙ ap (λ (ls : List Loss). loses seat (suc (entries seat s.journal)) (due_after (suc (length s.journal)) ls)) gone in
    ap (λ (x : Event). x ∷ es) first
    ∙ ap (λ (xs : List Event). record { by = seat; nth = entries seat s.journal; act = Lose is.0 } ∷ xs) more
    ∙ sym (ap (loses seat (entries seat s.journal)) (some_comes (length s.journal) is.0 s.losses is.2))

-- behind the first losses none is due
none_first : (p : Plan) → due (after p (first_state p) (first_losses p)) ≡ None
none_first p = none_behind p (first_state p) 0 0 0 p.setup.losses refl refl

-- so another event stands before a loss that is due later
not_first : (p : Plan) (more : List Event) (machine : ℕ) → IsLegal p (first_losses p ++ more)
    → due (replay p (first_losses p ++ more)) ≡ Some machine
    → All (λ (e : Event). IsLoss e.act) more → ⊥
unfolding IsLegalFrom
not_first p [] machine legal is_due losses =
    let none = ap (λ (es : List Event). due (replay p es)) (append-nil (first_losses p))
    ∙ none_first p in
    absurd (cc (is_due, none))
not_first p (e ∷ es) machine legal is_due losses =
    let s = after p (first_state p) (first_losses p) in
    let behind = (legal_parts p (first_state p) (first_losses p) (e ∷ es) legal).1 in
    let is = loss_due p s e.by e.act behind.0.act
    (All-head (λ (x : Event). IsLoss x.act) e es losses) in
    let none = none_first p in let some = is.2 in
    absurd (cc (none, some))

-- the law
pub any_seat_loses : LossSeatLaw
any_seat_loses p more seat machine legal on is_due = record {
  goes_on = on;
  is_due = is_due;
  by = λ all. absurd (not_first p more machine legal is_due
      (all_second (λ (e : Event). IsLoss e.act) (first_losses p) more
      (All-same (λ (e : Event). IsLoss e.act) (first_losses p ++ more)
      (replay p (first_losses p ++ more)).journal
      (sym (journal_whole p (first_losses p ++ more))) all)));
}

-- a Finish leaves the losses to come and the machines that are lost
finish_leaves : (p : Plan) (s : State) (k machine : ℕ) (o : Option Held)
    → ((finished_by p s k machine o).losses ≡ s.losses)
    × ((finished_by p s k machine o).lost ≡ s.lost)
finish_leaves p s k machine None = (refl, refl)
finish_leaves p s k machine (Some c) = by_kind (is_run c.job.task)
  where
    by_kind : (b : Bool)
        → ((if b then kept_by_driver s k (job_ran p.file (limits_of p) c.job)
        else kept_by_machine s k machine (job_ran p.file (limits_of p) c.job)).losses ≡ s.losses)
        × ((if b then kept_by_driver s k (job_ran p.file (limits_of p) c.job)
        else kept_by_machine s k machine (job_ran p.file (limits_of p) c.job)).lost ≡ s.lost)
    by_kind true = (refl, refl)
    by_kind false = (refl, refl)

-- the losses to come behind an act
act_losses : (p : Plan) (s : State) (seat : ℕ) (act : Act)
    → (acted p s seat act).losses ≡ drop (cond (is_loss act) 1 0) s.losses
unfolding acted
act_losses p s seat (Place k a m) = refl
act_losses p s seat (Claim k a m) = refl
act_losses p s seat (Finish k a m) = (finish_leaves p s k m (s.desk.claim k)).0
act_losses p s seat (Drop k a m) = refl
act_losses p s seat (Refine k) = refl
act_losses p s seat (Settle k) = refl
act_losses p s seat (Lose m) = refl
act_losses p s seat (Trim k) = refl

-- the machines that are lost behind it
put_lost : (b c : Bool) → (if b then true else c) ≡ (b || c)
put_lost true c = refl
put_lost false c = refl

act_lost : (p : Plan) (s : State) (seat : ℕ) (act : Act) (machine : ℕ)
    → (acted p s seat act).lost machine ≡ (is_lost_by machine act || s.lost machine)
unfolding acted
act_lost p s seat (Place k a m) machine = refl
act_lost p s seat (Claim k a m) machine = refl
act_lost p s seat (Finish k a m) machine =
    ap (λ (f : ℕ → Bool). f machine) (finish_leaves p s k m (s.desk.claim k)).1
act_lost p s seat (Drop k a m) machine = refl
act_lost p s seat (Refine k) machine = refl
act_lost p s seat (Settle k) machine = refl
act_lost p s seat (Lose m) machine = put_lost (machine == m) (s.lost machine)
act_lost p s seat (Trim k) machine = refl

-- nothing is left of nothing
none_left : (n : ℕ) → drop {A = Loss} n [] ≡ []
none_left zero = refl
none_left (suc n) = refl

-- what is left of what is left
left_twice : (b : Bool) (n : ℕ) (ls : List Loss)
    → drop n (drop (cond b 1 0) ls) ≡ drop (cond b 1 0 + n) ls
left_twice false n ls = ap (λ (i : ℕ). drop i ls) (let z : n ≡ 0 + n = omega arith in z)
left_twice true n [] = none_left n ∙ sym (none_left (1 + n))
left_twice true n (l ∷ ls) = ap (λ (i : ℕ). drop i (l ∷ ls)) (let z : suc n ≡ 1 + n = omega arith in z)

losses_after : (p : Plan) (s : State) (es : List Event)
    → (after p s es).losses ≡ drop (losses_of es) s.losses
unfolding after happens
losses_after p s [] = refl
losses_after p s (e ∷ es) =
    losses_after p (happens p s e) es
    ∙ ap (drop (losses_of es)) (act_losses p s e.by e.act)
    ∙ left_twice (is_loss e.act) (losses_of es) s.losses
    ∙ ap (λ (n : ℕ). drop n s.losses)
    (sym (sum_by-cons (λ (x : Event). cond (is_loss x.act) 1 0) e es))

-- one of three, in another order
or_turned : (a b c : Bool) → (a || (b || c)) ≡ ((b || a) || c)
or_turned true true c = refl
or_turned true false c = refl
or_turned false true c = refl
or_turned false false c = refl

or_none : (b : Bool) → (b || false) ≡ b
or_none true = refl
or_none false = refl

lost_after : (p : Plan) (s : State) (es : List Event) (machine : ℕ)
    → (after p s es).lost machine
    ≡ (list_any (λ (e : Event). is_lost_by machine e.act) es || s.lost machine)
unfolding after happens
lost_after p s [] machine = refl
lost_after p s (e ∷ es) machine =
    let more = list_any (λ (x : Event). is_lost_by machine x.act) es in
    lost_after p (happens p s e) es machine
    ∙ ap (λ b. more || b) (act_lost p s e.by e.act machine)
    ∙ or_turned more (is_lost_by machine e.act) (s.lost machine)

-- the law
pub are_left : LeftLaw
are_left p es = record {
  losses = losses_after p (first_state p) es;
  lost = λ machine. lost_after p (first_state p) es machine
      ∙ or_none (list_any (λ (e : Event). is_lost_by machine e.act) es);
}
