-- The operators before one operand and between two (Python Language Reference, 6.5 to 6.9).
use Rattle.std.specs.Prelude.{ℕ, ℤ, neg_ℤ, ◌++◌, not, ◌&&◌, ◌||◌, Option, Some, Result, Ok}
use Rattle.std.proofs.Math.Bool.{beq}
use Rattle.pyd_value.specs.declared.value.Value.{Value, out-Value, Bool as Truth}
use Rattle.pyd_value.specs.declared.value.Value.TheOpen.{Value-F}
use Rattle.pyd_value.specs.declared.fault.Fault.{Fault}
use Rattle.pyd_value.specs.declared.fault.Kind.TheVariants.{TypeError}
use Rattle.pyd_value.specs.declared.fault.Limit.TheVariants as limit
use Rattle.pyd_value.specs.declared.operator.BinOp.{BinOp}
use Rattle.pyd_value.specs.declared.operator.BinOp.TheVariants.{Add, Mul, Mod, And, Or, Xor}
use Rattle.pyd_value.specs.declared.operator.UnOp.{UnOp}
use Rattle.pyd_value.specs.declared.operator.UnOp.TheVariants.{Neg, Pos, Not}
use Rattle.pyd_value.specs.Shape.{Shape, number, text, tuple, shape_in, shape_of, number_of}
use Rattle.pyd_value.specs.Truth.{is_true}
use Rattle.pyd_ops.specs.Answer.{raise, exceed}
use Rattle.pyd_ops.specs.Integer.{integer, positive_part}
use Rattle.pyd_ops.specs.Arithmetic.{arithmetic}
use Rattle.std.specs.List.{repeat}
use Rattle.pyd_ops.specs.Joining.{text_if_fits, tuple_if_fits}

-- `-a` and `+a` of a number
abbrev pub signed : UnOp → Option ℤ → ℕ → Result Value Fault
signed Neg (Some n) line = integer (neg_ℤ n) line
signed Pos (Some n) line = integer n line
signed op n line = raise TypeError line

-- an operator before its operand
abbrev pub unary : UnOp → Value → ℕ → Result Value Fault
unary Not a line = Ok (Truth (not (is_true a)))
unary op a line = signed op (number_of a) line

-- an operator between two numbers
abbrev pub on_numbers : BinOp → Shape Value → Shape Value → ℕ → Result Value Fault
on_numbers op (number m) (number n) line = arithmetic op m n line
on_numbers op a b line = raise TypeError line

-- `a + b`: texts and tuples are joined
abbrev pub add : Shape Value → Shape Value → ℕ → Result Value Fault
add (text s) (text t) line = text_if_fits (s ++ t) line
add (tuple xs) (tuple ys) line = tuple_if_fits (xs ++ ys) line
add a b line = on_numbers Add a b line

-- a text or a tuple so many times over
abbrev pub repeat_value : Shape Value → ℕ → ℕ → Result Value Fault
repeat_value (text s) n line = text_if_fits (repeat n s) line
repeat_value (tuple xs) n line = tuple_if_fits (repeat n xs) line
repeat_value a n line = raise TypeError line

-- `a * b`: a text or tuple is repeated, with the number on either side, and empty for one below 1
abbrev pub multiply : Shape Value → Shape Value → ℕ → Result Value Fault
multiply (number m) (number n) line = arithmetic Mul m n line
multiply (number n) b line = repeat_value b (positive_part n) line
multiply a (number n) line = repeat_value a (positive_part n) line
multiply a b line = raise TypeError line

-- `a % b`: of a text it would be a format, which the profile doesn't have
abbrev pub modulo : Shape Value → Shape Value → ℕ → Result Value Fault
modulo (text s) b line = exceed limit.Outside line
modulo a b line = on_numbers Mod a b line

-- `a & b`, `a | b` and `a ^ b`: of two truth values a truth value
abbrev pub bitwise : BinOp → Value-F Value → Value-F Value → ℕ → Result Value Fault
bitwise And (Value-F.Bool p) (Value-F.Bool q) line = Ok (Truth (p && q))
bitwise Or (Value-F.Bool p) (Value-F.Bool q) line = Ok (Truth (p || q))
bitwise Xor (Value-F.Bool p) (Value-F.Bool q) line = Ok (Truth (not (beq p q)))
bitwise op a b line = on_numbers op (shape_in a) (shape_in b) line

-- an operator between two operands
abbrev pub binary : BinOp → Value → Value → ℕ → Result Value Fault
binary Add a b line = add (shape_of a) (shape_of b) line
binary Mul a b line = multiply (shape_of a) (shape_of b) line
binary Mod a b line = modulo (shape_of a) (shape_of b) line
binary And a b line = bitwise And (out-Value a) (out-Value b) line
binary Or a b line = bitwise Or (out-Value a) (out-Value b) line
binary Xor a b line = bitwise Xor (out-Value a) (out-Value b) line
binary op a b line = on_numbers op (shape_of a) (shape_of b) line
