-- One core comes from another by events.
use Rattle.std.specs.Prelude.{◌≡◌, ◌∷◌, [], ◌++◌, ℕ, suc, List}
use Rattle.pyd_board.specs.declared.event.Act.{Act}
use Rattle.pyd_board.specs.declared.event.Event.{Event}
use Rattle.pyd_boards.specs.Boards.{entry}
use Rattle.pyd_core.specs.declared.keeper.Core.{Core}
use Rattle.pyd_core.specs.Cores.{HasRoom, IsCore, plan_of}

-- it is a core of the same plan, with these entries behind those that were there
pub record ComesBy (old new : Core) (es : List Event) : Type 0 where
  pub core : IsCore new
  pub plan : plan_of new ≡ plan_of old
  pub journal : new.log.journal.items ≡ old.log.journal.items ++ es

-- by the next entry of a seat
abbrev pub Makes : Core → Core → ℕ → Act → Type 0
Makes old new seat act = ComesBy old new (entry old.log.journal.items seat act ∷ [])

-- by none: nothing but room has changed
abbrev pub Stays : Core → Core → Type 0
Stays old new = ComesBy old new []

-- as much room as before is left for entries that aren't losses
abbrev pub KeepsRoom : Core → Core → Type 0
KeepsRoom old new = (n : ℕ) → HasRoom n old → HasRoom n new

-- room for one such entry was used
abbrev pub UsesRoom : Core → Core → Type 0
UsesRoom old new = (n : ℕ) → HasRoom (suc n) old → HasRoom n new
