-- Expressions whose value is a number, with nothing printed.
use Rattle.std.specs.Prelude.{◌≡◌, ℕ, ℤ, List, Option, Ok}
use Rattle.pyd_value.specs.declared.value.Value.{Value, Int}
use Rattle.pyd_value.specs.declared.operator.BinOp.{BinOp}
use Rattle.pyd_tree.specs.declared.expression.Expr.{Expr}
use Rattle.pyd_tree.specs.declared.expression.Expr.TheVariants as expression
use Rattle.pyd_ops.specs.Operators.{binary}
use Rattle.pyd_meaning.specs.Outcome.{outcome}
use Rattle.pyd_eval.specs.declared.activation.Activation.{Activation}
use Rattle.pyd_eval.specs.Frames.{evaluation}
use Rattle.pyd_eval.specs.Given.{Does}
use Rattle.pyd_eval.specs.Tails.{chain_tail}

-- an expression whose value is this number
abbrev pub IsNumber : Activation → Expr → ℕ → List (Option Value) → ℤ → Type 0
IsNumber on e line slots z =
    (before : List (List ℕ)) → Does before (evaluation on e line slots) before (Ok (Int z))

-- an operator whose answer on two numbers is this number
abbrev pub IsAnswer : BinOp → ℤ → ℤ → ℤ → Type 0
IsAnswer op a b z = (line : ℕ) → binary op (Int a) (Int b) line ≡ Ok (Int z)

-- a chain whose value is this number
abbrev pub IsChain : Activation → Expr → List (BinOp × Expr) → ℕ → List (Option Value) → ℤ → Type 0
IsChain on first links line slots z = IsNumber on (expression.Chain first links) line slots z

-- the operators that are left behind this number do what the chain does
abbrev pub Remains : Activation → Expr → List (BinOp × Expr) → List (BinOp × Expr) → ℕ
    → List (Option Value) → ℤ → Type 0
Remains on first links rest line slots z =
    (before : List (List ℕ)) → outcome before (chain_tail on (Int z) rest line slots)
    ≡ outcome before (evaluation on (expression.Chain first links) line slots)
