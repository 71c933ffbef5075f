-- The numbers of a `range` (the library's "Ranges"): a first one, a step and how many there are.
use Rattle.std.specs.Prelude.{ℕ, zero, suc, min, ℤ, pos, negsuc, ◌+ℤ◌, ◌-ℤ◌, ◌*ℤ◌, List, [], ◌∷◌, Option, Some, map, Result, Ok}
use Rattle.std.specs.Int.{div_ceil}
use Rattle.pyd_value.specs.declared.value.Value.{Value}
use Rattle.pyd_value.specs.declared.fault.Fault.{Fault}
use Rattle.pyd_value.specs.declared.fault.Kind.TheVariants.{TypeError, ValueError}
use Rattle.pyd_value.specs.Shape.{number_of}
use Rattle.pyd_value.specs.Limits.{greatest_integer}
use Rattle.pyd_ops.specs.declared.ranges.Span.{Span}
use Rattle.pyd_ops.specs.Answer.{raise}
use Rattle.pyd_ops.specs.Integer.{positive_part}

-- number t of a range, counted from 0
abbrev pub number_at : Span → ℕ → ℤ
number_at span t = span.from +ℤ (pos t *ℤ span.step)

-- how many of a, a + s and so on come before b, going up or going down
abbrev pub count : ℤ → ℤ → ℤ → ℕ
count a b (pos s) = div_ceil (positive_part (b -ℤ a)) s
count a b (negsuc s) = div_ceil (positive_part (a -ℤ b)) (suc s)

-- the span, its count cut to the greatest integer, where the step isn't 0
abbrev pub span_of : ℤ → ℤ → ℤ → ℕ → Result Span Fault
span_of a b (pos zero) line = raise ValueError line
span_of a b s line =
    Ok (record { from = a; step = s; count = pos (min (count a b s) greatest_integer) })

-- the bounds as numbers: an end, a beginning and an end, or these and a step
abbrev pub range_of_numbers : List (Option ℤ) → ℕ → Result Span Fault
range_of_numbers (Some b ∷ []) line = span_of (pos 0) b (pos 1) line
range_of_numbers (Some a ∷ Some b ∷ []) line = span_of a b (pos 1) line
range_of_numbers (Some a ∷ Some b ∷ Some s ∷ []) line = span_of a b s line
range_of_numbers bounds line = raise TypeError line

-- `range` of these arguments
abbrev pub range_of : List Value → ℕ → Result Span Fault
range_of args line = range_of_numbers (map number_of args) line
