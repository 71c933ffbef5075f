-- `and` and `or` as one kind of expression.
use Rattle.std.specs.Prelude.{List, Bool, true, false, not}
use Rattle.pyd_value.specs.declared.value.Value.{Value, Bool as Truth}
use Rattle.pyd_value.specs.Truth.{is_true}
use Rattle.pyd_meaning.specs.Expression.{Meaning, conjunction, disjunction}
use Rattle.pyd_eval.specs.declared.junction.Junction.{Junction}
use Rattle.pyd_eval.specs.declared.junction.Junction.TheVariants.{And, Or}

-- what it does with its members
abbrev pub joined : Junction → List Meaning → Meaning
joined And es = conjunction es
joined Or es = disjunction es

-- what it gives of no members
abbrev pub value_of_none : Junction → Value
value_of_none And = Truth true
value_of_none Or = Truth false

-- whether a member's value ends it
abbrev pub is_ended_by : Junction → Value → Bool
is_ended_by And v = not (is_true v)
is_ended_by Or v = is_true v
