-- The texts of values and the integers of texts (the library's `str`, `repr`, `int` and `print`).
use Rattle.std.specs.Prelude.{ℕ, ℤ, List, [], ◌∷◌, ◌++◌, codes, cond, true, false, Option, Some, None, Result, Ok, Err, if◌then◌else◌}
use Rattle.std.specs.Fmt.{signed_decimal}
use Rattle.std.specs.List.{join_by, list_all}
use Rattle.pyd_value.specs.declared.value.Value.{Value, fold-Value, Int, Text}
use Rattle.pyd_value.specs.declared.value.Value.TheOpen.{Value-F}
use Rattle.pyd_value.specs.declared.fault.Fault.{Fault}
use Rattle.pyd_value.specs.declared.fault.Kind.TheVariants.{TypeError, ValueError}
use Rattle.pyd_value.specs.declared.fault.Limit.TheVariants as limit
use Rattle.pyd_value.specs.Shape.{Shape, number, text, tuple, nothing, shape_of}
use Rattle.pyd_ops.specs.Answer.{raise, exceed}
use Rattle.pyd_ops.specs.Integer.{integer}
use Rattle.pyd_ops.specs.Joining.{fits, text_if_fits}
use Rattle.pyd_text.specs.Quoting.{quoted}
use Rattle.pyd_text.specs.Numerals.{is_readable, strip, signed_numeral}

-- texts one after another, divided by a comma and a space
abbrev pub listed : List (List ℕ) → List ℕ
listed = join_by (λ r. r) (codes ", ")

-- the members of a tuple in parentheses, with a comma behind an only one
abbrev pub parenthesized : List (List ℕ) → List ℕ
parenthesized [] = codes "()"
parenthesized (r ∷ []) = codes "(" ++ (r ++ codes ",)")
parenthesized (r ∷ q ∷ rs) = codes "(" ++ (listed (r ∷ q ∷ rs) ++ codes ")")

-- one level, each member being given by its `repr`
abbrev pub repr_step : Value-F (List ℕ) → List ℕ
repr_step (Value-F.Int n) = signed_decimal n
repr_step (Value-F.Bool true) = codes "True"
repr_step (Value-F.Bool false) = codes "False"
repr_step (Value-F.Text s) = quoted s
repr_step (Value-F.Tuple members) = parenthesized members
repr_step Value-F.None = codes "None"

-- the characters of a value's `repr`
abbrev pub repr : Value → List ℕ
repr = fold-Value (List ℕ) repr_step

-- the characters of the `str` of a shape whose `repr` is known
abbrev pub str_in : Shape Value → List ℕ → List ℕ
str_in (text s) r = s
str_in (number n) r = r
str_in (tuple members) r = r
str_in nothing r = r

-- the characters of a value's `str`: a text itself, and of anything else its `repr`
abbrev pub str : Value → List ℕ
str a = str_in (shape_of a) (repr a)

-- `str(a)`
abbrev pub str_of : Value → ℕ → Result Value Fault
str_of a line = text_if_fits (str a) line

-- `repr(a)`
abbrev pub repr_of : Value → ℕ → Result Value Fault
repr_of a line = text_if_fits (repr a) line

-- the characters that `print` puts on its line: the `str` of each argument, divided by spaces
abbrev pub printed : List Value → List ℕ
printed = join_by str (codes " ")

-- the same where a text of them is within the limits, or the fault
abbrev pub line : List Value → ℕ → Result (List ℕ) Fault
line args at = cond (fits (Text (printed args))) (Ok (printed args)) (exceed limit.Size at)

-- a line as a text value
abbrev pub as_text : Result (List ℕ) Fault → Result Value Fault
as_text (Ok s) = Ok (Text s)
as_text (Err f) = Err f

-- the same as a text value
abbrev pub line_of : List Value → ℕ → Result Value Fault
line_of args at = text_if_fits (printed args) at

-- an integer within the limits, where there is one
abbrev pub int_if_any : Option ℤ → ℕ → Result Value Fault
int_if_any (Some n) line = integer n line
int_if_any None line = raise ValueError line

-- the integer that a text writes
abbrev pub int_of_text : List ℕ → ℕ → Result Value Fault
int_of_text s line =
    if list_all is_readable s then int_if_any (signed_numeral (strip s)) line
    else exceed limit.Outside line

-- the integer of a shape
abbrev pub int_in : Shape Value → ℕ → Result Value Fault
int_in (number n) line = Ok (Int n)
int_in (text s) line = int_of_text s line
int_in (tuple members) line = raise TypeError line
int_in nothing line = raise TypeError line

-- `int(a)`
abbrev pub int_of : Value → ℕ → Result Value Fault
int_of a line = int_in (shape_of a) line
