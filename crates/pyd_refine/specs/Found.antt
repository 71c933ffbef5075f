-- What a `for` finds at a turn.
use Rattle.std.specs.Prelude.{ℕ, Option, Some, None}
use Rattle.pyd_value.specs.declared.value.Value.{Value}
use Rattle.pyd_meaning.specs.Loops.{Items}
use Rattle.pyd_refine.specs.declared.item.Found.{Found}
use Rattle.pyd_refine.specs.declared.item.Found.TheVariants as found

-- the item that was found, if items are there
abbrev pub seen : Found → Option (Option Value)
seen (found.Item v) = Some (Some v)
seen found.End = Some None
seen found.Nothing = None

-- the item of a turn, if items are there
abbrev pub at_turn : ℕ → Option Items → Option (Option Value)
at_turn turn (Some items) = Some (items turn)
at_turn turn None = None
