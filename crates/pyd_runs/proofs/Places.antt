-- Losses stand exactly at their places.
use Rattle.std.proofs.Common.{◌≡◌, ◌≢◌, ℕ, zero, suc, ◌+◌, ◌-◌, ◌<◌, ◌≤◌, List, [], ◌∷◌, ◌++◌, length, length-append, take, drop, map, max, Bool, true, false, cond, if◌then◌else◌, Option, Some, None, inl, inr, ◌⊎◌, refl, sym, ap, subst, ◌∙◌, arith}
use Rattle.std.specs.Prelude.{nat_le}
use Rattle.std.specs.List.{All, zip}
use Rattle.std.proofs.lemmas.Bool.Decides.{nat_tests}
use Rattle.std.proofs.lemmas.List.Elements.{All-nil, All-cons, All-weaker}
use Rattle.pyd_meaning.specs.declared.ran.Ran.{Ran}
use Rattle.pyd_ir.specs.Meaning.{job_ran}
use Rattle.pyd_board.specs.declared.event.Act.{Act}
use Rattle.pyd_board.specs.declared.event.Act.TheVariants.{Place, Claim, Finish, Drop, Refine, Settle, Lose, Trim}
use Rattle.pyd_board.specs.declared.event.Event.{Event}
use Rattle.pyd_board.specs.declared.setup.Loss.{Loss}
use Rattle.pyd_runs.specs.Plans.{Plan, limits_of}
use Rattle.pyd_runs.specs.Desks.{Held}
use Rattle.pyd_runs.specs.Losses.{due_at}
use Rattle.pyd_runs.specs.Effects.{State, first_state, acted, happens, finished_by, is_run, kept_by_driver, kept_by_machine}
use Rattle.pyd_runs.specs.Enabled.{CanAct, Enabled, due}
use Rattle.pyd_runs.specs.Replay.{after, replay, IsLegalFrom}
use Rattle.pyd_runs.specs.Laws.{places_from, loss_at, losses_in, LossLaw}
use Rattle.pyd_runs.proofs.Barring.{due_bars}

-- the losses of entries with their places, counted from a number on
abbrev due_from : ℕ → List Loss → List (ℕ × ℕ)
due_from k losses = zip (places_from k losses) (map (λ (l : Loss). l.machine) losses)

-- the run doesn't go on
abbrev HasEnded : State → Type 0
HasEnded s = s.graph.end ≢ None

-- an act isn't a loss
abbrev IsNoLoss : Act → Type 0
IsNoLoss act = (k : ℕ) (more : List (ℕ × ℕ)) → loss_at k act more ≡ more

-- there is none, or there is one
pub none_or_some : {A : Type 0} (o : Option A) → (o ≡ None) ⊎ ((a : A) × (o ≡ Some a))
none_or_some None = inl refl
none_or_some (Some a) = inr (a, refl)

-- places that are counted from a number on lie there or behind it
places_behind : (k : ℕ) (losses : List Loss) → All (λ (l : ℕ × ℕ). k ≤ l.0) (due_from k losses)
places_behind k [] = All-nil (λ (l : ℕ × ℕ). k ≤ l.0)
places_behind k (l ∷ losses) =
    All-cons (λ (x : ℕ × ℕ). k ≤ x.0) (max k l.event, l.machine) (due_from (suc (max k l.event)) losses)
    (omega arith)
    (All-weaker (λ (x : ℕ × ℕ). suc (max k l.event) ≤ x.0) (λ (x : ℕ × ℕ). k ≤ x.0)
    (λ x h. omega (arith, h)) (due_from (suc (max k l.event)) losses)
    (places_behind (suc (max k l.event)) losses))

-- where no loss is due, the next place isn't this one
by_test_not_due : (k : ℕ) (l : Loss) (b : Bool) → nat_le l.event k ≡ b
    → cond b (Some l.machine) None ≡ None → max k l.event ≡ max (suc k) l.event
by_test_not_due k l true t e = absurd (cc (e))
by_test_not_due k l false t e = let h : k < l.event = grind (arith, nat_tests) in omega arith

not_due : (k : ℕ) (losses : List Loss) → due_at k losses ≡ None
    → due_from k losses ≡ due_from (suc k) losses
not_due k [] e = refl
not_due k (l ∷ losses) e =
    ap (λ (place : ℕ). (place, l.machine) ∷ due_from (suc place) losses)
    (by_test_not_due k l (nat_le l.event k) refl e)

-- where one is due, it is the first entry's, and its place is this one
by_test_due : (k machine : ℕ) (l : Loss) (b : Bool) → nat_le l.event k ≡ b
    → cond b (Some l.machine) None ≡ Some machine → (max k l.event ≡ k) × (l.machine ≡ machine)
by_test_due k machine l true t e =
    let h : l.event ≤ k = grind (arith, nat_tests) in (omega arith, cc (e))
by_test_due k machine l false t e = absurd (cc (e))

is_due : (k machine : ℕ) (losses : List Loss) → due_at k losses ≡ Some machine
    → due_from k losses ≡ (k, machine) ∷ due_from (suc k) (drop 1 losses)
is_due k machine [] e = absurd (cc (e))
is_due k machine (l ∷ losses) e =
    let r = by_test_due k machine l (nat_le l.event k) refl e in
    ap (λ (place : ℕ). (place, l.machine) ∷ due_from (suc place) losses) r.0
    ∙ ap (λ (m : ℕ). (k, m) ∷ due_from (suc k) losses) r.1

-- what is done where a run has ended is no loss, and leaves the graph as it is
ended_act : (p : Plan) (s : State) (seat : ℕ) (act : Act) → HasEnded s → CanAct p s seat act
    → IsNoLoss act × ((acted p s seat act).graph ≡ s.graph)
unfolding acted
ended_act p s seat (Place k a m) ended can = absurd (ended can.0.goes_on)
ended_act p s seat (Claim k a m) ended can = absurd (ended can.0.goes_on)
ended_act p s seat (Finish k a m) ended can = absurd (ended can.0.goes_on)
ended_act p s seat (Drop k a m) ended can = ((λ i more. refl), refl)
ended_act p s seat (Refine k) ended can = absurd (ended can.0.goes_on)
ended_act p s seat (Settle k) ended can = absurd (ended can.0.goes_on)
ended_act p s seat (Lose m) ended can = absurd (ended can.goes_on)
ended_act p s seat (Trim k) ended can = absurd (ended can.0.goes_on)

-- so an ended run stays ended
ended_event : (p : Plan) (s : State) (e : Event) → HasEnded s → Enabled p s e
    → HasEnded (happens p s e)
unfolding happens
ended_event p s e ended can =
    let h = (ended_act p s e.by e.act ended can.act).1 in
    λ z. ended (sym (ap (λ g. g.end) h) ∙ z)

stays_ended : (p : Plan) (s : State) (es : List Event) (j : ℕ) → HasEnded s → IsLegalFrom p s es
    → HasEnded (after p s (take j es))
unfolding after IsLegalFrom
stays_ended p s es zero ended legal = ended
stays_ended p s [] (suc j) ended legal = ended
stays_ended p s (e ∷ es) (suc j) ended legal =
    stays_ended p (happens p s e) es j (ended_event p s e ended legal.0) legal.1

-- and no loss comes any more
none_after : (p : Plan) (s : State) (es : List Event) (k : ℕ) → HasEnded s → IsLegalFrom p s es
    → losses_in k es ≡ []
unfolding IsLegalFrom
none_after p s [] k ended legal = refl
none_after p s (e ∷ es) k ended legal =
    (ended_act p s e.by e.act ended legal.0.act).0 k (losses_in (suc k) es)
    ∙ none_after p (happens p s e) es (suc k) (ended_event p s e ended legal.0) legal.1

-- a job that is done changes no losses to come
finish_loses_none : (p : Plan) (s : State) (k machine : ℕ) (o : Option Held)
    → (finished_by p s k machine o).losses ≡ s.losses
finish_loses_none p s k machine None = refl
finish_loses_none p s k machine (Some c) =
    of_either (is_run c.job.task) (kept_by_driver s k ran) (kept_by_machine s k machine ran) refl refl
  where
    ran : Ran
    ran = job_ran p.file (limits_of p) c.job

    of_either : (b : Bool) (a o : State) → a.losses ≡ s.losses → o.losses ≡ s.losses
        → (if b then a else o).losses ≡ s.losses
    of_either true a o h k = h
    of_either false a o h k = k

-- where no loss is due, what is done is none, and leaves those to come as they are
undue_act : (p : Plan) (s : State) (seat : ℕ) (act : Act) → due s ≡ None → CanAct p s seat act
    → IsNoLoss act × ((acted p s seat act).losses ≡ s.losses)
unfolding acted
undue_act p s seat (Place k a m) none can = ((λ i more. refl), refl)
undue_act p s seat (Claim k a m) none can = ((λ i more. refl), refl)
undue_act p s seat (Finish k a m) none can =
    ((λ i more. refl), finish_loses_none p s k m (s.desk.claim k))
undue_act p s seat (Drop k a m) none can = ((λ i more. refl), refl)
undue_act p s seat (Refine k) none can = ((λ i more. refl), refl)
undue_act p s seat (Settle k) none can = ((λ i more. refl), refl)
undue_act p s seat (Lose m) none can = absurd (let z = can.is_due in cc (z, none))
undue_act p s seat (Trim k) none can = ((λ i more. refl), refl)

-- a place isn't reached, or the run had ended by then
abbrev IsLater : Plan → State → ℕ → List Event → ℕ × ℕ → Type 0
IsLater p s k es l = (k + length es ≤ l.0)
    ⊎ ((j : ℕ) × (l.0 ≡ k + j) × HasEnded (after p s (take j es)))

-- the losses of events from a state on are the first of those due, and no other place has come
record AreAtPlacesFrom (p : Plan) (s : State) (k : ℕ) (es : List Event) : Type 0 where
  more : List (ℕ × ℕ)
  first : due_from k s.losses ≡ losses_in k es ++ more
  later : All (IsLater p s k es) more

-- what is later from the next state on is later
later_behind : (p : Plan) (s : State) (k : ℕ) (e : Event) (es : List Event) (l : ℕ × ℕ)
    → IsLater p (happens p s e) (suc k) es l → IsLater p s k (e ∷ es) l
unfolding after
later_behind p s k e es l (inl far) = inl (omega (arith, far))
later_behind p s k e es l (inr by) = inr (suc by.0, (let z = by.1 in omega arith), by.2)

-- of a run that has ended no place comes
ended_places : (p : Plan) (s : State) (es : List Event) (k : ℕ) → HasEnded s → IsLegalFrom p s es
    → AreAtPlacesFrom p s k es
ended_places p s es k ended legal = record {
  more = due_from k s.losses;
  first = ap (λ (ls : List (ℕ × ℕ)). ls ++ due_from k s.losses) (sym (none_after p s es k ended legal));
  later = All-weaker (λ (l : ℕ × ℕ). k ≤ l.0) (IsLater p s k es)
      (λ l h. inr (l.0 - k, (omega (arith, h)), stays_ended p s es (l.0 - k) ended legal))
      (due_from k s.losses) (places_behind k s.losses);
}

-- an event and those behind it, where these stand at their places
places_with : (p : Plan) (s : State) (e : Event) (es : List Event) (k : ℕ) → length s.journal ≡ k
    → Enabled p s e → IsLegalFrom p (happens p s e) es
    → AreAtPlacesFrom p (happens p s e) (suc k) es → AreAtPlacesFrom p s k (e ∷ es)
unfolding IsLegalFrom happens acted
places_with p s e es k long can legal rest = elim (none_or_some s.graph.end) [
  | inr end ↦ ended_places p s (e ∷ es) k (λ z. let w = end.1 in cc (z, w)) (can, legal)
  | inl on ↦ elim (none_or_some (due s)) [
    | inl none ↦
        let r = undue_act p s e.by e.act none can.act in
        record {
          more = rest.more;
          first =
              not_due k s.losses (subst (λ (i : ℕ). due_at i s.losses ≡ None) long none)
              ∙ ap (due_from (suc k)) (sym r.1) ∙ rest.first
              ∙ ap (λ (ls : List (ℕ × ℕ)). ls ++ rest.more) (sym (r.0 k (losses_in (suc k) es)));
          later = later;
        }
    | inr some ↦
        let act = due_bars p s e some.0 on some.1 can in
        let gone : (happens p s e).losses ≡ drop 1 s.losses =
        ap (λ (a : Act). (acted p s e.by a).losses) act in
        record {
          more = rest.more;
          first =
              is_due k some.0 s.losses (subst (λ (i : ℕ). due_at i s.losses ≡ Some some.0) long some.1)
              ∙ ap (λ (ls : List (ℕ × ℕ)). (k, some.0) ∷ ls)
              (ap (due_from (suc k)) (sym gone) ∙ rest.first)
              ∙ ap (λ (a : Act). loss_at k a (losses_in (suc k) es) ++ rest.more) (sym act);
          later = later;
        }
  ]
]
  where
    later : All (IsLater p s k (e ∷ es)) rest.more
    later = All-weaker (IsLater p (happens p s e) (suc k) es) (IsLater p s k (e ∷ es))
        (later_behind p s k e es) rest.more rest.later

-- the journal is one event longer
one_longer : (p : Plan) (s : State) (e : Event) (k : ℕ) → length s.journal ≡ k
    → length (happens p s e).journal ≡ suc k
unfolding happens
one_longer p s e k long = length-append s.journal (e ∷ []) ∙ omega (arith, long)

-- events from a state on, with the number of those before it
places_hold : (p : Plan) (s : State) (es : List Event) (k : ℕ) → length s.journal ≡ k
    → IsLegalFrom p s es → AreAtPlacesFrom p s k es
unfolding IsLegalFrom
places_hold p s [] k long legal = record {
  more = due_from k s.losses;
  first = refl;
  later = All-weaker (λ (l : ℕ × ℕ). k ≤ l.0) (IsLater p s k []) (λ l h. inl (omega (arith, h)))
      (due_from k s.losses) (places_behind k s.losses);
}
places_hold p s (e ∷ es) k long legal =
    places_with p s e es k long legal.0 legal.1
    (places_hold p (happens p s e) es (suc k) (one_longer p s e k long) legal.1)

-- the law
pub losses_stand : LossLaw
losses_stand p es runnable legal =
    let r = places_hold p (first_state p) es 0 refl legal in
    record {
      more = r.more;
      first = r.first;
      later = All-weaker (IsLater p (first_state p) 0 es)
          (λ (l : ℕ × ℕ). (length es ≤ l.0) ⊎ ((replay p (take l.0 es)).graph.end ≢ None))
          (λ l h. elim h [
            | inl far ↦ inl (omega (arith, far))
            | inr by ↦ inr (subst (λ (i : ℕ). HasEnded (after p (first_state p) (take i es)))
                (let z = by.1 in let w : by.0 ≡ l.0 = omega arith in w) by.2)
          ]) r.more r.later;
    }
