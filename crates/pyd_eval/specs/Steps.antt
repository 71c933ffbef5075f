-- What statements do without the step that they count as.
use Rattle.std.specs.Prelude.{ℕ, List, map, Option, option_map}
use Rattle.pyd_value.specs.declared.value.Value.{Value}
use Rattle.pyd_tree.specs.declared.statement.Arm.{Arm}
use Rattle.pyd_tree.specs.declared.statement.Block.{Block}
use Rattle.pyd_tree.specs.declared.statement.What.{What}
use Rattle.pyd_value.specs.declared.operator.BinOp.{BinOp}
use Rattle.pyd_tree.specs.declared.expression.Expr.{Expr}
use Rattle.pyd_ops.specs.Operators.{binary}
use Rattle.pyd_meaning.specs.Evaluation.{Evaluation, settled, ◌>>=◌}
use Rattle.pyd_meaning.specs.Reference.{read}
use Rattle.pyd_meaning.specs.Setting.{place_of}
use Rattle.pyd_meaning.specs.Completion.{Reached}
use Rattle.pyd_meaning.specs.Statement.{what_action, arm_action, block_action, arms, otherwise, assertion_failed}
use Rattle.pyd_eval.specs.declared.activation.Activation.{Activation}
use Rattle.pyd_eval.specs.Frames.{setting, names_of, evaluation}

-- what a statement of a line does
abbrev pub does_what : Activation → What → ℕ → List (Option Value) → Evaluation Reached
does_what on what line slots = what_action (setting on) what line (names_of on slots)

-- what arms and a last suite do
abbrev pub does_arms : Activation → List Arm → Option Block → List (Option Value)
    → Evaluation Reached
does_arms on choices last slots =
    arms (map (arm_action (setting on)) choices)
    (otherwise (option_map (block_action (setting on)) last)) (names_of on slots)

-- the value that an augmented assignment binds: the name, the right side, and then the operator
abbrev pub augmented_value : Activation → List ℕ → BinOp → Expr → ℕ → List (Option Value)
    → Evaluation Value
augmented_value on name op e line slots =
    read (setting on) name (place_of line) (names_of on slots)
    >>= (λ a. evaluation on e line slots >>= (λ b. settled (binary op a b line)))

-- what an `assert` that failed does: its message, and then the exception
abbrev pub failure : Activation → Option Expr → ℕ → List (Option Value) → Evaluation Reached
failure on message line slots =
    assertion_failed (setting on) message (place_of line) (names_of on slots)
