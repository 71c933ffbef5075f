-- Joining and repeating texts and tuples (Python Language Reference, 6.7), within the limits.
use Rattle.std.specs.Prelude.{ℕ, ◌+◌, ◌-◌, ◌*◌, max, nat_le, nat_lt, List, Bool, cond, ◌&&◌, Result, Ok}
use Rattle.pyd_value.specs.declared.value.Value.{Value, Text, Tuple}
use Rattle.pyd_value.specs.declared.fault.Fault.{Fault}
use Rattle.pyd_value.specs.declared.fault.Limit.TheVariants as limit
use Rattle.pyd_value.specs.Size.{size_of, nesting_of}
use Rattle.pyd_value.specs.Limits.{largest_size, deepest_nesting}
use Rattle.pyd_ops.specs.Answer.{exceed}

-- a value within the limits on size and nesting
abbrev pub fits : Value → Bool
fits v = nat_le (size_of v) largest_size && nat_le (nesting_of v) deepest_nesting

-- whether two tuples make one that fits, by their sizes and nestings
abbrev pub fit_together : Value → Value → Bool
fit_together a b =
    nat_le (size_of a + size_of b) (1 + largest_size)
    && nat_le (max (nesting_of a) (nesting_of b)) deepest_nesting

-- whether a tuple fits n times over, where n isn't 0
abbrev pub fits_repeated : Value → ℕ → Bool
fits_repeated a n =
    nat_lt (n * (size_of a - 1)) largest_size && nat_le (nesting_of a) deepest_nesting

-- the value if it fits, or the fault
abbrev pub if_fits : Value → ℕ → Result Value Fault
if_fits v line = cond (fits v) (Ok v) (exceed limit.Size line)

-- a text if it fits, or the fault
abbrev pub text_if_fits : List ℕ → ℕ → Result Value Fault
text_if_fits s line = if_fits (Text s) line

-- a tuple if it fits, or the fault
abbrev pub tuple_if_fits : List Value → ℕ → Result Value Fault
tuple_if_fits members line = if_fits (Tuple members) line

-- a text as it is
abbrev pub text_value : List ℕ → Result Value Fault
text_value s = Ok (Text s)
