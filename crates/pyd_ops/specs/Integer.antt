-- Integers and their limits: a result is exact, and a fault where it is too wide.
use Rattle.std.specs.Prelude.{ℕ, ℤ, pos, negsuc, nat_lt, Bool, cond, Option, Some, None, Result, Ok}
use Rattle.pyd_value.specs.declared.value.Value.{Value, Int}
use Rattle.pyd_value.specs.declared.fault.Fault.{Fault}
use Rattle.pyd_value.specs.declared.fault.Limit.TheVariants as limit
use Rattle.pyd_value.specs.Limits.{integer_bound}
use Rattle.pyd_ops.specs.Answer.{exceed}

-- a number that 128 bits hold
abbrev pub is_within : ℤ → Bool
is_within (pos n) = nat_lt n integer_bound
is_within (negsuc n) = nat_lt n integer_bound

-- a number within the limits, or none
abbrev pub within : ℤ → Option ℤ
within z = cond (is_within z) (Some z) None

-- an integer, or the fault where there is none
abbrev pub checked : Option ℤ → ℕ → Result Value Fault
checked (Some z) line = Ok (Int z)
checked None line = exceed limit.Int line

-- an integer, or the fault where it is too wide
abbrev pub integer : ℤ → ℕ → Result Value Fault
integer z line = checked (within z) line

-- a number, and 0 where it is below
abbrev pub positive_part : ℤ → ℕ
positive_part (pos n) = n
positive_part (negsuc n) = 0
