-- How often a node was placed: no more often than there are events.
use Rattle.std.proofs.Common.{◌≤◌, ◌+◌, ℕ, suc, List, [], ◌∷◌, length, inl, inr, ap, arith}
use Rattle.pyd_board.specs.declared.event.Act.{Act}
use Rattle.pyd_board.specs.declared.event.Act.TheVariants.{Place, Claim, Finish, Drop, Refine, Settle, Lose, Trim}
use Rattle.pyd_board.specs.declared.event.Event.{Event}
use Rattle.pyd_runs.specs.Plans.{Plan}
use Rattle.pyd_runs.specs.Effects.{State, acted, first_state, happens}
use Rattle.pyd_runs.specs.Enabled.{CanAct, Enabled}
use Rattle.pyd_runs.specs.Replay.{IsLegal, IsLegalFrom, after, replay}
use Rattle.pyd_runs.proofs.Named.{finish_places}
use Rattle.pyd_runs.proofs.Putting.{at_cases, put_else, put_same}

module _ (p : Plan) where
  -- what a seat does places a node once at most
  act_places : (s : State) (seat k : ℕ) (act : Act) → CanAct p s seat act
      → (acted p s seat act).desk.places k ≤ suc (s.desk.places k)
  unfolding acted
  act_places s seat k (Place n attempt machine) can = elim (at_cases k n) [
    | inl same ↦
        let put = put_same s.desk.places n attempt k same in
        let next = can.1.next_attempt in
        let was = ap s.desk.places same in
        omega (arith, put, next, was)
    | inr other ↦
        let put = put_else s.desk.places n attempt k other in
        omega (arith, put)
  ]
  act_places s seat k (Claim n attempt machine) can = omega arith
  act_places s seat k (Finish n attempt machine) can =
      let same = ap (λ (f : ℕ → ℕ). f k) (finish_places p s n machine (s.desk.claim n)) in
      omega (arith, same)
  act_places s seat k (Drop n attempt machine) can = omega arith
  act_places s seat k (Refine n) can = omega arith
  act_places s seat k (Settle n) can = omega arith
  act_places s seat k (Lose machine) can = omega arith
  act_places s seat k (Trim n) can = omega arith

  event_places : (s : State) (k : ℕ) (e : Event) → Enabled p s e
      → (happens p s e).desk.places k ≤ suc (s.desk.places k)
  unfolding happens
  event_places s k e may = act_places s e.by k e.act may.act

  events_places : (es : List Event) (s : State) (k : ℕ) → IsLegalFrom p s es
      → (after p s es).desk.places k ≤ s.desk.places k + length es
  unfolding after IsLegalFrom
  events_places [] s k legal = omega arith
  events_places (e ∷ es) s k legal =
      let first = event_places s k e legal.0 in
      let more = events_places es (happens p s e) k legal.1 in
      omega (arith, first, more)

  -- no node is placed more often than a run has events
  pub places_few : (es : List Event) (k : ℕ) → IsLegal p es
      → (replay p es).desk.places k ≤ length es
  places_few es k legal =
      let all : (replay p es).desk.places k ≤ 0 + length es
      = events_places es (first_state p) k legal in
      omega (arith, all)
