-- What refining the first composite appends.
use Rattle.std.specs.Prelude.{[], ℕ, List}
use Rattle.pyd_board.specs.declared.event.Event.{Event}
use Rattle.pyd_board.specs.Histories.{AllBy}
use Rattle.pyd_boards.specs.Moves.{RefinesIn}
use Rattle.pyd_core.specs.declared.keeper.Core.{Core}
use Rattle.pyd_core.specs.Cores.{plan_of}
use Rattle.pyd_core.specs.Facts.{facts_of, may_come}
use Rattle.pyd_core.specs.Refining.{IsFirstRefinable, NoneRefinable}
use Rattle.pyd_core.specs.Steps.{ComesBy, Stays}

-- no node may be refined, and nothing was done
pub record RefinesNone (old new : Core) : Type 0 where
  pub none : NoneRefinable old
  pub stays : Stays old new

-- a seat refined the first composite that may be refined
pub record RefinesFirst (old new : Core) (seat : ℕ) : Type 0 where
  pub at : ℕ
  pub first : IsFirstRefinable old at
  pub own : List Event
  pub comes : ComesBy old new own
  pub by : AllBy seat own
  pub refines : RefinesIn (facts_of (plan_of old)) (may_come (plan_of old)) 0
      old.log.journal.items own []
