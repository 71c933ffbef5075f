-- A core after a Place.
use Rattle.std.proofs.Common.{◌≡◌, ◌<◌, ◌^◌, ℕ, suc, true, length, refl, ap, sym, subst, arith}
use Rattle.pyd_board.specs.declared.event.Act.{Act}
use Rattle.pyd_board.specs.declared.event.Act.TheVariants.{Place}
use Rattle.pyd_boards.specs.Boards.{entry}
use Rattle.pyd_runs.specs.Deciding.{PlaceTestLaw, may_place}
use Rattle.pyd_runs.specs.Effects.{State, acted, placed}
use Rattle.pyd_runs.specs.Enabled.{CanAct, IsQuiet, Lives}
use Rattle.pyd_runs.specs.Facts.{NumberLaw}
use Rattle.pyd_runs.specs.Following.{JournalLaw, StepLaw}
use Rattle.pyd_runs.specs.Laws.{RunLaw}
use Rattle.pyd_runs.specs.Plans.{IsSeat}
use Rattle.pyd_desk.specs.Desks.{mark_at}
use Rattle.pyd_desk.specs.States.{Becomes}
use Rattle.pyd_core.specs.declared.keeper.Core.{Core}
use Rattle.pyd_core.specs.Cores.{HasRoom, IsCore, plan_of, state_of}
use Rattle.pyd_core.specs.Placing.{next_attempt_of}
use Rattle.pyd_core.specs.Steps.{Makes}
use Rattle.pyd_core.proofs.Attempts.{places_few}
use Rattle.pyd_core.proofs.Noted.{HasNoted, IsAsFar, notes}
use Rattle.pyd_core.proofs.Stepped.{entry_enabled}

-- the laws on which a Place stands
pub record PlaceLaws : Type 0 where
  pub run : RunLaw
  pub step : StepLaw
  pub journal : JournalLaw
  pub number : NumberLaw
  pub place : PlaceTestLaw

-- a seat may place a node on a machine
pub record IsPlacing (c : Core) (by k machine : ℕ) : Type 0 where
  pub core : IsCore c
  pub room : HasRoom 1 c
  pub seat : IsSeat (plan_of c) by
  pub quiet : IsQuiet (state_of c)
  pub may : may_place (state_of c) k ≡ true
  pub lives : Lives (plan_of c) (state_of c).lost machine

module _ (laws : PlaceLaws) (c : Core) (seat k machine : ℕ) (is : IsPlacing c seat k machine) where
  abbrev s : State
  s = state_of c

  abbrev act : Act
  act = Place k (next_attempt_of c k) machine

  can : CanAct (plan_of c) s seat act
  can =
      let sound = laws.run (plan_of c) c.log.journal.items is.core.runnable is.core.legal in
      (is.quiet, (laws.place (plan_of c) s k sound).may is.may machine is.lives)

  -- its number has a mark
  pub placed_below : k < length c.desk.marks.items
  placed_below =
      let es = c.log.journal.items in
      let may = entry_enabled laws.journal (plan_of c) es seat act is.seat can in
      let low = laws.number (plan_of c) es (entry es seat act) k is.core.runnable is.core.legal may
      refl in
      subst (λ n. k < n) (sym is.core.tied.state.marks) low

  -- how often it was placed
  pub placed_times : s.desk.places k ≡ (mark_at c.desk.marks.items k).places
  placed_times = ap (λ d. d.places k) is.core.tied.state.desk

  -- once more doesn't overflow
  pub placed_few : suc (mark_at c.desk.marks.items k).places < 2 ^ 64
  placed_few =
      let few = places_few (plan_of c) c.log.journal.items k is.core.legal in
      let room = is.room in
      let times = placed_times in
      let small = c.log.journal.small in
      omega (arith, few, room, times, small)

  -- a Place leaves the end of the run, and the losses to come
  as_far : IsAsFar s (acted (plan_of c) s seat act)
  unfolding acted
  as_far = record { end = refl; losses = refl }

  -- a core with the ticket
  pub makes_place : (d : Core) → HasNoted c d seat act
      → Becomes c.desk d.desk (λ t. placed t k (next_attempt_of c k) machine) → Makes c d seat act
  unfolding acted
  makes_place d noted becomes =
      notes c d seat act noted laws.step laws.journal is.core is.room is.seat can as_far
      (becomes c.line s is.core.tied.state)
