-- What statements do (Python Language Reference, sections 7 and 8).
use Rattle.std.specs.Prelude.{ℕ, List, [], ◌∷◌, Bool, true, false, Option, Some, None}
use Rattle.pyd_value.specs.declared.value.Value.{Value}
use Rattle.pyd_value.specs.declared.value.Value.TheVariants as value
use Rattle.pyd_value.specs.declared.fault.Kind.TheVariants.{AssertionError}
use Rattle.pyd_value.specs.declared.operator.Builtin.{Builtin as BuiltinName}
use Rattle.pyd_value.specs.declared.operator.Builtin.TheVariants as builtin
use Rattle.pyd_value.specs.Truth.{is_true}
use Rattle.pyd_tree.specs.declared.expression.Expr.{Expr, out-Expr}
use Rattle.pyd_tree.specs.declared.expression.Expr.TheOpen.{Expr-F}
use Rattle.pyd_tree.specs.declared.expression.Suffix.{Suffix}
use Rattle.pyd_tree.specs.declared.statement.What.{What, fold-What}
use Rattle.pyd_tree.specs.declared.statement.What.TheOpen.{What-F, Arm-F, Block-F, Stmt-F}
use Rattle.pyd_tree.specs.declared.statement.Arm.{Arm, fold-Arm}
use Rattle.pyd_tree.specs.declared.statement.Block.{Block, fold-Block}
use Rattle.pyd_tree.specs.declared.statement.Stmt.{Stmt, fold-Stmt}
use Rattle.pyd_names.specs.Resolution.{Resolution}
use Rattle.pyd_names.specs.Resolution as resolution
use Rattle.pyd_ops.specs.Operators.{binary}
use Rattle.pyd_meaning.specs.Evaluation.{Evaluation, settled, gives, step, ◌>>=◌}
use Rattle.pyd_meaning.specs.Names.{Names, bind}
use Rattle.pyd_meaning.specs.Setting.{Place, place_of, raises, Setting}
use Rattle.pyd_meaning.specs.Reference.{read}
use Rattle.pyd_meaning.specs.Expression.{meaning_of, branch}
use Rattle.pyd_meaning.specs.Assignment.{assign}
use Rattle.pyd_meaning.specs.Completion.{Return, Break, Continue, Action, left, normally, in_turn}
use Rattle.pyd_meaning.specs.Loops.{while_loop, for_loop}

-- an arm: its test at its own line, and its suite
pub record ArmAction : Type 0 where
  pub test : Names → Evaluation Value
  pub body : Action

-- the suite of `else`, or nothing
abbrev pub otherwise : Option Action → Action
otherwise (Some body) names = body names
otherwise None names = gives (normally names)

-- an arm from the value of its test on: its suite, or what follows it
abbrev pub arm_from : Action → Action → Value → Action
arm_from body following v = branch (is_true v) body following

-- the arms from the first on, and then the suite of `else`
unfoldable pub arms : List ArmAction → Action → Action
arms [] last names = last names
arms (a ∷ more) last names = a.test names >>= (λ v. arm_from a.body (arms more last) v names)

-- a value that may be missing, and None where it is
abbrev pub value_or_none : Setting → Option Expr → Place → Names → Evaluation Value
value_or_none setting (Some e) at names = meaning_of setting e at names
value_or_none setting None at names = gives value.None

-- whether a builtin is `range`
abbrev pub names_range : BuiltinName → Bool
names_range builtin.Range = true
names_range builtin.Print = false
names_range builtin.Len = false
names_range builtin.Abs = false
names_range builtin.Min = false
names_range builtin.Max = false
names_range builtin.Sum = false
names_range builtin.Str = false
names_range builtin.Repr = false
names_range builtin.Int = false
names_range builtin.Bool = false

-- whether a name that resolves so is the builtin `range`
abbrev pub resolves_to_range : Resolution → Bool
resolves_to_range (resolution.Builtin b) = names_range b
resolves_to_range resolution.Local = false
resolves_to_range (resolution.Constant v) = false
resolves_to_range (resolution.Function k) = false
resolves_to_range resolution.Imported = false
resolves_to_range resolution.Variable = false
resolves_to_range resolution.Unbound = false

-- whether an expression is a call of `range`, by its first level
abbrev pub calls_range_at : Setting → Expr-F Expr Suffix → Bool
calls_range_at setting (Expr-F.Call name args) = resolves_to_range (setting.resolve name)
calls_range_at setting (Expr-F.Lit v) = false
calls_range_at setting (Expr-F.Name name) = false
calls_range_at setting (Expr-F.Tuple es) = false
calls_range_at setting (Expr-F.Unary op e) = false
calls_range_at setting (Expr-F.Chain first links) = false
calls_range_at setting (Expr-F.Power base exponent) = false
calls_range_at setting (Expr-F.And es) = false
calls_range_at setting (Expr-F.Or es) = false
calls_range_at setting (Expr-F.Compare first links) = false
calls_range_at setting (Expr-F.If test first second) = false
calls_range_at setting (Expr-F.Suffixed base suffixes) = false

-- whether an expression is a call of `range`
abbrev pub calls_range : Setting → Expr → Bool
calls_range setting e = calls_range_at setting (out-Expr e)

-- the exception of an `assert` that failed, after its message
abbrev pub assertion_failed : Setting → Option Expr → Place → Action
assertion_failed setting message at names =
    value_or_none setting message at names >>= (λ v. raises AssertionError at)

-- one level of a statement at its place, whose suites are replaced by what they do
abbrev pub what_step : Setting → What-F (ℕ → Action) ArmAction Action Action → Place → Action
what_step setting (What-F.Expr e) at names =
    meaning_of setting e at names >>= (λ v. gives (normally names))
what_step setting (What-F.Assign targets e) at names =
    meaning_of setting e at names
    >>= (λ v. assign targets v at names >>= (λ bound. gives (normally bound)))
what_step setting (What-F.Aug name op e) at names =
    read setting name at names
    >>= (λ a. meaning_of setting e at names
    >>= (λ b. settled (binary op a b at.line) >>= (λ c. gives (normally (bind names name c)))))
what_step setting (What-F.If choices last) at names = arms choices (otherwise last) names
what_step setting (What-F.While test body) at names =
    while_loop setting.limits.turns at (meaning_of setting test) body names
what_step setting (What-F.For targets e body) at names =
    meaning_of setting e at names
    >>= (λ v. for_loop setting.limits.turns at targets body (calls_range setting e) v 0 names)
what_step setting (What-F.Return e) at names =
    value_or_none setting e at names >>= (λ v. gives (left (Return v) names))
what_step setting What-F.Break at names = gives (left Break names)
what_step setting What-F.Continue at names = gives (left Continue names)
what_step setting What-F.Pass at names = gives (normally names)
what_step setting (What-F.Assert test message) at names =
    meaning_of setting test at names
    >>= (λ v. branch (is_true v) (λ now. gives (normally now))
    (assertion_failed setting message at) names)

-- one level of a statement in its line
abbrev pub in_line : Setting → What-F (ℕ → Action) ArmAction Action Action → ℕ → Action
in_line setting what line = what_step setting what (place_of line)

-- one level of an arm
abbrev pub arm_step : Setting → Arm-F (ℕ → Action) ArmAction Action Action → ArmAction
arm_step setting a = record { test = meaning_of setting a.test (place_of a.line); body = a.body }

-- one level of a block: its statements in turn
abbrev pub block_step : Block-F (ℕ → Action) ArmAction Action Action → Action
block_step b = in_turn b.stmts

-- one level of a statement: a step, and what it does in its line
abbrev pub statement_step : Stmt-F (ℕ → Action) ArmAction Action Action → Action
statement_step s names = step (s.what s.line names)

-- what a statement does
unfoldable pub action_of : Setting → Stmt → Action
action_of setting =
    fold-Stmt (ℕ → Action) ArmAction Action Action
    (in_line setting) (arm_step setting) block_step statement_step

-- what a block does
unfoldable pub block_action : Setting → Block → Action
block_action setting =
    fold-Block (ℕ → Action) ArmAction Action Action
    (in_line setting) (arm_step setting) block_step statement_step

-- what an arm does
unfoldable pub arm_action : Setting → Arm → ArmAction
arm_action setting =
    fold-Arm (ℕ → Action) ArmAction Action Action
    (in_line setting) (arm_step setting) block_step statement_step

-- what a statement does that stands in a line, apart from its step
unfoldable pub what_action : Setting → What → ℕ → Action
what_action setting =
    fold-What (ℕ → Action) ArmAction Action Action
    (in_line setting) (arm_step setting) block_step statement_step
