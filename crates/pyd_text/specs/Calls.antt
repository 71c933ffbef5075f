-- The builtin functions that make texts and read them (the library's `str`, `repr` and `int`).
use Rattle.std.specs.Prelude.{ℕ, pos, List, [], ◌∷◌, Bool, true, false, Result, Ok}
use Rattle.pyd_value.specs.declared.value.Value.{Value, Int, Text}
use Rattle.pyd_value.specs.declared.fault.Fault.{Fault}
use Rattle.pyd_value.specs.declared.fault.Kind.TheVariants.{TypeError}
use Rattle.pyd_value.specs.declared.fault.Limit.TheVariants as limit
use Rattle.pyd_value.specs.declared.operator.Builtin.{Builtin}
use Rattle.pyd_value.specs.declared.operator.Builtin.TheVariants as variant
use Rattle.pyd_ops.specs.Answer.{raise, exceed}
use Rattle.pyd_text.specs.Texts.{str_of, repr_of, int_of}

-- a builtin function of these arguments, for those that make texts and read them
abbrev pub text_builtin : Builtin → List Value → ℕ → Result Value Fault
text_builtin variant.Str [] line = Ok (Text [])
text_builtin variant.Str (a ∷ []) line = str_of a line
text_builtin variant.Repr (a ∷ []) line = repr_of a line
text_builtin variant.Int [] line = Ok (Int (pos 0))
text_builtin variant.Int (a ∷ []) line = int_of a line
text_builtin variant.Int (a ∷ base ∷ []) line = exceed limit.Outside line
text_builtin which args line = raise TypeError line

-- those functions
abbrev pub is_of_texts : Builtin → Bool
is_of_texts variant.Str = true
is_of_texts variant.Repr = true
is_of_texts variant.Int = true
is_of_texts variant.Print = false
is_of_texts variant.Len = false
is_of_texts variant.Abs = false
is_of_texts variant.Min = false
is_of_texts variant.Max = false
is_of_texts variant.Sum = false
is_of_texts variant.Bool = false
is_of_texts variant.Range = false
