-- What a call does with the values of its arguments (the library's "Built-in Functions").
use Rattle.std.specs.Prelude.{ℕ, List, [], ◌∷◌, Result, Ok, Err}
use Rattle.pyd_value.specs.declared.value.Value.{Value, Int, Tuple}
use Rattle.pyd_value.specs.declared.value.Value.TheVariants as value
use Rattle.pyd_value.specs.declared.fault.Fault.{Fault}
use Rattle.pyd_value.specs.declared.fault.Kind.TheVariants.{TypeError}
use Rattle.pyd_value.specs.declared.operator.Builtin.{Builtin}
use Rattle.pyd_value.specs.declared.operator.Builtin.TheVariants.{Print, Len, Abs, Min, Max, Sum, Str, Repr, Int as ToInt, Bool, Range}
use Rattle.pyd_ops.specs.declared.ranges.Span.{Span}
use Rattle.pyd_ops.specs.Calls.{builtin}
use Rattle.pyd_ops.specs.Ranges.{range_of}
use Rattle.pyd_text.specs.Texts.{line}
use Rattle.pyd_text.specs.Calls.{text_builtin}
use Rattle.pyd_meaning.specs.Evaluation.{Evaluation, settled, faults, prints}
use Rattle.pyd_meaning.specs.Setting.{Place, Setting, raises}
use Rattle.pyd_meaning.specs.Reference.{Callee, Defined, Given, Uncallable}

-- the line of a `print`, and then None
abbrev pub printed : Result (List ℕ) Fault → Evaluation Value
printed (Ok text) = prints text value.None
printed (Err f) = faults f

-- the value of a `range`: the tuple of its first number, its step and its count
abbrev pub range_value : Result Span Fault → Result Value Fault
range_value (Ok span) = Ok (Tuple (Int span.from ∷ Int span.step ∷ Int span.count ∷ []))
range_value (Err f) = Err f

-- what a builtin function does
abbrev pub builtin_called : Builtin → List Value → ℕ → Evaluation Value
builtin_called Print vs at = printed (line vs at)
builtin_called Len vs at = settled (builtin Len vs at)
builtin_called Abs vs at = settled (builtin Abs vs at)
builtin_called Min vs at = settled (builtin Min vs at)
builtin_called Max vs at = settled (builtin Max vs at)
builtin_called Sum vs at = settled (builtin Sum vs at)
builtin_called Str vs at = settled (text_builtin Str vs at)
builtin_called Repr vs at = settled (text_builtin Repr vs at)
builtin_called ToInt vs at = settled (text_builtin ToInt vs at)
builtin_called Bool vs at = settled (builtin Bool vs at)
builtin_called Range vs at = settled (range_value (range_of vs at))

-- what a call does with these values
abbrev pub called : Setting → Callee → List Value → Place → Evaluation Value
called setting (Defined k) vs at = setting.calls k vs at.line
called setting (Given b) vs at = builtin_called b vs at.line
called setting Uncallable vs at = raises TypeError at
