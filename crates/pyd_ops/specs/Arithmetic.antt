-- Arithmetic on whole numbers (Python Language Reference, 6.5 to 6.9), limits last.
use Rattle.std.specs.Prelude.{ℕ, zero, suc, ℤ, pos, negsuc, ◌+ℤ◌, ◌-ℤ◌, ◌*ℤ◌, neg_ℤ, ◌/◌, ◌^◌, Result}
use Rattle.std.specs.Int.{div_ceil, int_rem_euclid, int_pow}
use Rattle.pyd_value.specs.declared.value.Value.{Value}
use Rattle.pyd_value.specs.declared.fault.Fault.{Fault}
use Rattle.pyd_value.specs.declared.fault.Kind.TheVariants.{ValueError, ZeroDivisionError}
use Rattle.pyd_value.specs.declared.fault.Limit.TheVariants as limit
use Rattle.pyd_value.specs.declared.operator.BinOp.{BinOp}
use Rattle.pyd_value.specs.declared.operator.BinOp.TheVariants.{Add, Sub, Mul, Div, Mod, Pow, Shl, Shr, And, Or, Xor}
use Rattle.pyd_ops.specs.Answer.{raise, exceed}
use Rattle.pyd_ops.specs.Integer.{integer}
use Rattle.pyd_ops.specs.Bits.{bits_and, bits_or, bits_xor}

-- the quotient, rounded toward minus infinity
abbrev pub floor_div : ℤ → ℤ → ℤ
floor_div (pos m) (pos n) = pos (m / n)
floor_div (negsuc m) (pos n) = negsuc (m / n)
floor_div (pos m) (negsuc n) = neg_ℤ (pos (div_ceil m (suc n)))
floor_div (negsuc m) (negsuc n) = pos (suc m / suc n)

-- the remainder that goes with it: from 0 to the divisor, which it never reaches
abbrev pub floor_rem : ℤ → ℤ → ℤ
floor_rem m (pos n) = int_rem_euclid m (pos n)
floor_rem m (negsuc n) = neg_ℤ (int_rem_euclid (neg_ℤ m) (pos (suc n)))

-- `m // n`
abbrev pub divide : ℤ → ℤ → ℕ → Result Value Fault
divide m (pos zero) line = raise ZeroDivisionError line
divide m n line = integer (floor_div m n) line

-- `m % n`
abbrev pub remainder : ℤ → ℤ → ℕ → Result Value Fault
remainder m (pos zero) line = raise ZeroDivisionError line
remainder m n line = integer (floor_rem m n) line

-- `m ** n`; Python's own result of a negative power isn't a whole number
abbrev pub power : ℤ → ℤ → ℕ → Result Value Fault
power m (pos n) line = integer (int_pow m n) line
power (pos zero) (negsuc n) line = raise ZeroDivisionError line
power m (negsuc n) line = exceed limit.Outside line

-- `m << n`
abbrev pub shift_left : ℤ → ℤ → ℕ → Result Value Fault
shift_left m (pos n) line = integer (m *ℤ pos (2 ^ n)) line
shift_left m (negsuc n) line = raise ValueError line

-- `m >> n`
abbrev pub shift_right : ℤ → ℤ → ℕ → Result Value Fault
shift_right m (pos n) line = integer (floor_div m (pos (2 ^ n))) line
shift_right m (negsuc n) line = raise ValueError line

-- a binary operator on numbers
abbrev pub arithmetic : BinOp → ℤ → ℤ → ℕ → Result Value Fault
arithmetic Add m n line = integer (m +ℤ n) line
arithmetic Sub m n line = integer (m -ℤ n) line
arithmetic Mul m n line = integer (m *ℤ n) line
arithmetic Div m n line = divide m n line
arithmetic Mod m n line = remainder m n line
arithmetic Pow m n line = power m n line
arithmetic Shl m n line = shift_left m n line
arithmetic Shr m n line = shift_right m n line
arithmetic And m n line = integer (bits_and m n) line
arithmetic Or m n line = integer (bits_or m n) line
arithmetic Xor m n line = integer (bits_xor m n) line
