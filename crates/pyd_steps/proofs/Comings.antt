-- Which events of a kind may come.
use Rattle.std.proofs.Common.{◌≡◌, ℕ, List, false, subst}
use Rattle.pyd_board.specs.declared.event.Act.{Act}
use Rattle.pyd_board.specs.declared.event.Act.TheVariants.{Place, Claim, Finish, Drop, Refine, Settle, Lose, Trim}
use Rattle.pyd_board.specs.declared.event.Event.{Event}
use Rattle.pyd_boards.specs.Calls.{ActKind, NoneIn, places, claims, finishes, drops, refines, settles, loses, trims, kind_of}
use Rattle.pyd_runs.specs.Deciding.{PlaceTestLaw, may_place}
use Rattle.pyd_runs.specs.Effects.{State}
use Rattle.pyd_runs.specs.Enabled.{CanAct, CanLose, CanPlace, CanRefine, CanSettle, CanTrim, IsUnbarred}
use Rattle.pyd_runs.specs.Plans.{Plan}
use Rattle.pyd_runs.specs.Replay.{replay}
use Rattle.pyd_runs.specs.Sound.{IsSound}
use Rattle.pyd_core.specs.Facts.{facts_of, may_come}
use Rattle.pyd_core.specs.Settling.{NoneSettles}

-- what has to be so for some act of a kind, where its kind is one of those that a step is about
abbrev CanBe : Plan → State → ActKind → Type 0
CanBe p s places = (k : ℕ) × ((attempt : ℕ) × ((machine : ℕ) × CanPlace p s k attempt machine))
CanBe p s claims = Unit {0}
CanBe p s finishes = Unit {0}
CanBe p s drops = Unit {0}
CanBe p s refines = (k : ℕ) × CanRefine p s k
CanBe p s settles = (k : ℕ) × CanSettle s k
CanBe p s loses = (seat : ℕ) × ((machine : ℕ) × CanLose s seat machine)
CanBe p s trims = (k : ℕ) × CanTrim s k

-- so it is where an act may be done
can_be : (p : Plan) (s : State) (seat : ℕ) (act : Act) → CanAct p s seat act
    → CanBe p s (kind_of act)
can_be p s seat (Place k attempt machine) can = (k, (attempt, (machine, can.1)))
can_be p s seat (Claim k attempt machine) can = tt
can_be p s seat (Finish k attempt machine) can = tt
can_be p s seat (Drop k attempt machine) can = tt
can_be p s seat (Refine k) can = (k, can.1)
can_be p s seat (Settle k) can = (k, can.1)
can_be p s seat (Lose machine) can = (seat, (machine, can))
can_be p s seat (Trim k) can = (k, can.1)

module _ (p : Plan) (events : List Event) where
  -- no event of a kind may come where no act of it can be
  none_of : (kind : ActKind) → (CanBe p (replay p events) kind → ⊥)
      → NoneIn (facts_of p) (may_come p) kind 0 events
  none_of kind none e may is =
      none (subst (CanBe p (replay p events)) is.of_kind
      (can_be p (replay p events) e.by e.act may.1.act))

  pub none_settle : NoneSettles (replay p events)
      → NoneIn (facts_of p) (may_come p) settles 0 events
  none_settle none = none_of settles (λ can. none can.0 can.1)

  pub none_refine : ((k : ℕ) → CanRefine p (replay p events) k → ⊥)
      → NoneIn (facts_of p) (may_come p) refines 0 events
  none_refine none = none_of refines (λ can. none can.0 can.1)

  pub none_place : PlaceTestLaw → IsSound p (replay p events)
      → ((k : ℕ) → may_place (replay p events) k ≡ false)
      → NoneIn (facts_of p) (may_come p) places 0 events
  none_place law sound none = none_of places (λ can.
      (let may = (law p (replay p events) can.0 sound).only can.1.0 can.1.1.0 can.1.1.1 in
      let not = none can.0 in
      cc (may, not)))

  pub none_lose : IsUnbarred (replay p events) → NoneIn (facts_of p) (may_come p) loses 0 events
  none_lose unbarred = none_of loses (λ can.
      (let due = can.1.1.is_due in
      let none = unbarred can.1.1.goes_on in
      cc (due, none)))
