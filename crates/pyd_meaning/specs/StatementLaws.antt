-- What each form of statement does, one law each, in the order of the grammar.
use Rattle.std.specs.Prelude.{◌≡◌, ℕ, List, map, Option, option_map}
use Rattle.pyd_value.specs.declared.operator.BinOp.{BinOp}
use Rattle.pyd_value.specs.Truth.{is_true}
use Rattle.pyd_tree.specs.declared.expression.Expr.{Expr}
use Rattle.pyd_tree.specs.declared.statement.Targets.{Targets}
use Rattle.pyd_tree.specs.declared.statement.Arm.{Arm, out-Arm}
use Rattle.pyd_tree.specs.declared.statement.Block.{Block, out-Block}
use Rattle.pyd_tree.specs.declared.statement.Stmt.{Stmt}
use Rattle.pyd_tree.specs.declared.statement.What.TheVariants as what
use Rattle.pyd_ops.specs.Operators.{binary}
use Rattle.pyd_meaning.specs.Evaluation.{settled, gives, step, ◌>>=◌}
use Rattle.pyd_meaning.specs.Names.{Names, bind}
use Rattle.pyd_meaning.specs.Setting.{place_of, Setting}
use Rattle.pyd_meaning.specs.Reference.{read}
use Rattle.pyd_meaning.specs.Expression.{meaning_of, branch}
use Rattle.pyd_meaning.specs.Assignment.{assign}
use Rattle.pyd_meaning.specs.Completion.{Break, Continue, Return, left, normally, in_turn}
use Rattle.pyd_meaning.specs.Loops.{while_loop, for_loop}
use Rattle.pyd_meaning.specs.Statement.{action_of, what_action, block_action, arm_action, arms, otherwise, value_or_none, calls_range, assertion_failed}

-- a statement is a step, and then what it does in its line
abbrev pub StatementLaw : Type 0
StatementLaw = (setting : Setting) (s : Stmt) (names : Names)
    → action_of setting s names ≡ step (what_action setting s.what s.line names)

-- a suite is its statements in turn
abbrev pub SuiteLaw : Type 0
SuiteLaw = (setting : Setting) (b : Block) (names : Names)
    → block_action setting b names ≡ in_turn (map (action_of setting) (out-Block b).stmts) names

-- an `if` is its arms from the first on, and then its `else`
abbrev pub IfLaw : Type 0
IfLaw = (setting : Setting) (choices : List Arm) (last : Option Block) (line : ℕ) (names : Names)
    → what_action setting (what.If choices last) line names
    ≡ arms (map (arm_action setting) choices) (otherwise (option_map (block_action setting) last)) names

-- an arm is its test in the line of its header, and its suite
abbrev pub ArmLaw : Type 0
ArmLaw = (setting : Setting) (a : Arm)
    → arm_action setting a
    ≡ record { test = meaning_of setting (out-Arm a).test (place_of (out-Arm a).line); body = block_action setting (out-Arm a).body }

-- a `while` is its test and its suite, turn after turn
abbrev pub WhileLaw : Type 0
WhileLaw = (setting : Setting) (test : Expr) (body : Block) (line : ℕ) (names : Names)
    → what_action setting (what.While test body) line names
    ≡ while_loop setting.limits.turns (place_of line) (meaning_of setting test) (block_action setting body) names

-- a `for` is its iterable once, and then its targets and its suite, turn after turn
abbrev pub ForLaw : Type 0
ForLaw = (setting : Setting) (targets : Targets) (e : Expr) (body : Block) (line : ℕ) (names : Names)
    → what_action setting (what.For targets e body) line names
    ≡ (meaning_of setting e (place_of line) names
    >>= (λ v. for_loop setting.limits.turns (place_of line) targets (block_action setting body) (calls_range setting e) v 0 names))

-- an expression as a statement is evaluated, and binds no name
abbrev pub ExpressionLaw : Type 0
ExpressionLaw = (setting : Setting) (e : Expr) (line : ℕ) (names : Names)
    → what_action setting (what.Expr e) line names
    ≡ (meaning_of setting e (place_of line) names >>= (λ v. gives (normally names)))

-- an assignment is its right side, and then its targets are bound
abbrev pub AssignmentLaw : Type 0
AssignmentLaw = (setting : Setting) (targets : Targets) (e : Expr) (line : ℕ) (names : Names)
    → what_action setting (what.Assign targets e) line names
    ≡ (meaning_of setting e (place_of line) names
    >>= (λ v. assign targets v (place_of line) names >>= (λ bound. gives (normally bound))))

-- an augmented assignment reads its name, then evaluates its right side, and then binds the name
abbrev pub AugmentedLaw : Type 0
AugmentedLaw = (setting : Setting) (name : List ℕ) (op : BinOp) (e : Expr) (line : ℕ) (names : Names)
    → what_action setting (what.Aug name op e) line names
    ≡ (read setting name (place_of line) names
    >>= (λ a. meaning_of setting e (place_of line) names
    >>= (λ b. settled (binary op a b line) >>= (λ c. gives (normally (bind names name c))))))

-- `pass`, `break` and `continue` do nothing but leave as their names say
pub record LeavingLaw : Type 0 where
  pub passes : (setting : Setting) (line : ℕ) (names : Names)
      → what_action setting what.Pass line names ≡ gives (normally names)
  pub breaks : (setting : Setting) (line : ℕ) (names : Names)
      → what_action setting what.Break line names ≡ gives (left Break names)
  pub continues : (setting : Setting) (line : ℕ) (names : Names)
      → what_action setting what.Continue line names ≡ gives (left Continue names)

-- a `return` is its value, and None where it has none
abbrev pub ReturnLaw : Type 0
ReturnLaw = (setting : Setting) (e : Option Expr) (line : ℕ) (names : Names)
    → what_action setting (what.Return e) line names
    ≡ (value_or_none setting e (place_of line) names >>= (λ v. gives (left (Return v) names)))

-- an `assert` is its test, and where that is false its message and then the exception
abbrev pub AssertLaw : Type 0
AssertLaw = (setting : Setting) (test : Expr) (message : Option Expr) (line : ℕ) (names : Names)
    → what_action setting (what.Assert test message) line names
    ≡ (meaning_of setting test (place_of line) names
    >>= (λ v. branch (is_true v) (λ now. gives (normally now))
    (assertion_failed setting message (place_of line)) names))
