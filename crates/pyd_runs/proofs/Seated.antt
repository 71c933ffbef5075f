-- Claims that are held are by seats of their machines.
use Rattle.std.proofs.Common.{ℕ, List, [], ◌∷◌, inl, inr, subst}
use Rattle.pyd_board.specs.declared.event.Event.{Event}
use Rattle.pyd_runs.specs.Plans.{Plan, IsSeatOf}
use Rattle.pyd_runs.specs.Desks.{Held}
use Rattle.pyd_runs.specs.Effects.{State, first_state, happens}
use Rattle.pyd_runs.specs.Enabled.{CanAct, Enabled}
use Rattle.pyd_runs.specs.Replay.{IsLegalFrom, after}
use Rattle.pyd_runs.specs.Claims.{IsTaken, IsSeated, AreSeated, SeatLaw, KeptSeatLaw}
use Rattle.pyd_runs.proofs.Owning.{takes}

-- a claim that is made now
seated_now : (p : Plan) (s : State) (e : Event) (k : ℕ) (c : Held) → Enabled p s e
    → IsTaken k c e → IsSeated p c
seated_now p s e k c can taken =
    let may = (subst (CanAct p s e.by) taken.act can.act).1 in record {
      is_machine = may.lives.is_machine;
      of_machine = subst (IsSeatOf p c.machine) taken.by may.by_seat;
    }

-- each event that may come keeps them so
pub seats_kept : KeptSeatLaw
seats_kept p s e can all k c held = elim (takes p s e k c can held) [
  | inl old ↦ all k c old
  | inr new ↦ seated_now p s e k c can new
]

-- over all events
run_seats : (p : Plan) (s : State) (es : List Event) → IsLegalFrom p s es → AreSeated p s
    → AreSeated p (after p s es)
unfolding IsLegalFrom after
run_seats p s [] legal all = all
run_seats p s (e ∷ es) legal all =
    run_seats p (happens p s e) es legal.1 (seats_kept p s e legal.0 all)

-- nothing is held before any event
none_seated : (p : Plan) → AreSeated p (first_state p)
none_seated p k c (inl claim) = absurd (cc (claim))
none_seated p k c (inr undone) = absurd (cc (undone))

-- the law
pub claims_seated : SeatLaw
claims_seated p es legal = run_seats p (first_state p) es legal (none_seated p)
