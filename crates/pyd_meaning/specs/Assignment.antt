-- Values bound to targets (Python Language Reference, 7.2).
use Rattle.std.specs.Prelude.{ℕ, List, [], ◌∷◌, Bool, true, false, Option, Some, None}
use Rattle.pyd_value.specs.declared.value.Value.{Value}
use Rattle.pyd_value.specs.declared.fault.Kind.TheVariants.{TypeError, ValueError}
use Rattle.pyd_tree.specs.declared.statement.Targets.{Targets}
use Rattle.pyd_ops.specs.Sequence.{items}
use Rattle.pyd_meaning.specs.Evaluation.{Evaluation, gives}
use Rattle.pyd_meaning.specs.Names.{Names, bind_all}
use Rattle.pyd_meaning.specs.Setting.{Place, raises}

-- the values that targets take: the value itself, or the items of what is unpacked
abbrev pub values_for : Bool → Value → Option (List Value)
values_for false v = Some (v ∷ [])
values_for true v = items v

-- the names that were bound, or the exception where the counts differ
abbrev pub bound_or_error : Option Names → Place → Evaluation Names
bound_or_error (Some names) at = gives names
bound_or_error None at = raises ValueError at

-- each target bound to its value, where there are values
abbrev pub assign_values : Option (List Value) → List (List ℕ) → Place → Names → Evaluation Names
assign_values (Some vs) targets at names = bound_or_error (bind_all names targets vs) at
assign_values None targets at names = raises TypeError at

-- targets bound to a value, and no target where that fails
abbrev pub assign : Targets → Value → Place → Names → Evaluation Names
assign targets v at names = assign_values (values_for targets.tuple v) targets.names at names
