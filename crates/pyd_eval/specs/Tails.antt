-- What is left of an expression behind a value that was found.
use Rattle.std.specs.Prelude.{ℕ, List, map, Option, Result, Ok, Err}
use Rattle.pyd_value.specs.declared.value.Value.{Value}
use Rattle.pyd_value.specs.declared.operator.BinOp.{BinOp}
use Rattle.pyd_value.specs.declared.operator.CmpOp.{CmpOp}
use Rattle.pyd_tree.specs.declared.expression.Expr.{Expr}
use Rattle.pyd_tree.specs.declared.expression.Suffix.{Suffix}
use Rattle.pyd_value.specs.declared.fault.Fault.{Fault}
use Rattle.pyd_ops.specs.Operators.{binary}
use Rattle.pyd_ops.specs.Comparing.{compare}
use Rattle.pyd_meaning.specs.Evaluation.{Evaluation, settled, gives, ◌>>=◌}
use Rattle.pyd_meaning.specs.Setting.{place_of}
use Rattle.pyd_meaning.specs.Expression.{meaning_of, suffix_of, chained, compared, suffixed}
use Rattle.pyd_eval.specs.declared.activation.Activation.{Activation}
use Rattle.pyd_eval.specs.declared.got.Got.{Got}
use Rattle.pyd_eval.specs.Given.{value_of}
use Rattle.pyd_eval.specs.Frames.{setting, names_of, evaluation}

-- the operators behind a value
abbrev pub chain_tail : Activation → Value → List (BinOp × Expr) → ℕ → List (Option Value)
    → Evaluation Value
chain_tail on v links line slots =
    chained v (map (λ l. (l.0, meaning_of (setting on) l.1)) links) (place_of line) (names_of on slots)

-- the links of a comparison behind a value
abbrev pub comparison_tail : Activation → Value → List (CmpOp × Expr) → ℕ → List (Option Value)
    → Evaluation Value
comparison_tail on v links line slots =
    compared v (map (λ l. (l.0, meaning_of (setting on) l.1)) links) (place_of line)
    (names_of on slots)

-- the brackets behind a value
abbrev pub suffix_tail : Activation → Value → List Suffix → ℕ → List (Option Value)
    → Evaluation Value
suffix_tail on v suffixes line slots =
    suffixed v (map (suffix_of (setting on)) suffixes) (place_of line) (names_of on slots)

-- an operator behind a value: its right operand, and then its answer
abbrev pub operation : Activation → BinOp → Value → Expr → ℕ → List (Option Value) → Evaluation Value
operation on op a right line slots = evaluation on right line slots >>= (λ b. settled (binary op a b line))

-- a link behind a value: its right operand, and with it the value of the comparison
abbrev pub operand_and_verdict : Activation → Value → CmpOp × Expr → ℕ → List (Option Value)
    → Evaluation (Value × Value)
operand_and_verdict on a link line slots =
    evaluation on link.1 line slots
    >>= (λ b. settled (compare link.0 a b line) >>= (λ c. gives (b, c)))

-- both values, or the fault
abbrev pub both_seen : Result (Got × Got) Fault → Result (Value × Value) Fault
both_seen (Ok both) = Ok (value_of both.0, value_of both.1)
both_seen (Err f) = Err f
