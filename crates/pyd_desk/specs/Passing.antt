-- A head of the chain that gave a value.
use Rattle.std.specs.Prelude.{Bool, true, false, Option, Some, None}
use Rattle.pyd_value.specs.declared.value.Value.{Value}
use Rattle.pyd_value.specs.declared.fault.Outcome.TheVariants as outcome
use Rattle.pyd_meaning.specs.declared.ran.Ran.{Ran}
use Rattle.pyd_desk.specs.Desks.{silent}

-- what the driver keeps of a node that gave a value, by whether it is pure
abbrev pub kept_of : Bool → Value → Option Ran
kept_of true v = None
kept_of false v = Some (silent (outcome.Ok v))
