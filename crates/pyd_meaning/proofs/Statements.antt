-- What each form of statement does.
use Rattle.std.proofs.Common.{◌≡◌, ℕ, Some, None, sym, ap, ◌∙◌}
use Rattle.pyd_tree.specs.declared.statement.What.TheFolds.{fold-roll-What, fold_out-Stmt, fold_out-Block, fold_out-Arm}
use Rattle.pyd_tree.specs.declared.statement.What.TheOpen.{What-F}
use Rattle.pyd_tree.specs.declared.statement.What.TheVariants as what
use Rattle.pyd_meaning.specs.Evaluation.{gives}
use Rattle.pyd_meaning.specs.Names.{Names}
use Rattle.pyd_meaning.specs.Setting.{Setting}
use Rattle.pyd_meaning.specs.Completion.{Action, Break, Continue, left, normally}
use Rattle.pyd_meaning.specs.Statement.{ArmAction, in_line, arm_step, block_step, statement_step, action_of, what_action, block_action, arm_action}
use Rattle.pyd_meaning.specs.StatementLaws.{StatementLaw, SuiteLaw, IfLaw, ArmLaw, WhileLaw, ForLaw, ExpressionLaw, AssignmentLaw, AugmentedLaw, LeavingLaw, ReturnLaw, AssertLaw}

-- a statement is a step, and then what it does in its line
pub statement : StatementLaw
unfolding action_of what_action
statement setting s names =
    ap (λ (f : Action). f names) (fold_out-Stmt (ℕ → Action) ArmAction Action Action (in_line setting) (arm_step setting) block_step statement_step s)

-- a suite is its statements in turn
pub suite : SuiteLaw
unfolding action_of block_action
suite setting b names =
    ap (λ (f : Action). f names) (fold_out-Block (ℕ → Action) ArmAction Action Action (in_line setting) (arm_step setting) block_step statement_step b)

-- an arm is its test in the line of its header, and its suite
pub arm : ArmLaw
unfolding arm_action block_action
arm setting a = fold_out-Arm (ℕ → Action) ArmAction Action Action (in_line setting) (arm_step setting) block_step statement_step a

-- an `if` is its arms, and then its `else`
pub if_statement : IfLaw
unfolding what_action block_action action_of arm_action
if_statement setting choices None line names =
    ap (λ w. what_action setting w line names) (sym (what.rolls-If choices None))
    ∙ ap (λ (f : ℕ → Action). f line names) (fold-roll-What (ℕ → Action) ArmAction Action Action (in_line setting) (arm_step setting) block_step statement_step (What-F.If choices None))
if_statement setting choices (Some last) line names =
    ap (λ w. what_action setting w line names) (sym (what.rolls-If choices (Some last)))
    ∙ ap (λ (f : ℕ → Action). f line names) (fold-roll-What (ℕ → Action) ArmAction Action Action (in_line setting) (arm_step setting) block_step statement_step (What-F.If choices (Some last)))

-- a `while` is its test and its suite, turn after turn
pub while_statement : WhileLaw
unfolding what_action block_action action_of arm_action
while_statement setting test body line names =
    ap (λ w. what_action setting w line names) (sym (what.rolls-While test body))
    ∙ ap (λ (f : ℕ → Action). f line names) (fold-roll-What (ℕ → Action) ArmAction Action Action (in_line setting) (arm_step setting) block_step statement_step (What-F.While test body))

-- a `for` is its iterable, and then its targets and its suite
pub for_statement : ForLaw
unfolding what_action block_action action_of arm_action
for_statement setting targets e body line names =
    ap (λ w. what_action setting w line names) (sym (what.rolls-For targets e body))
    ∙ ap (λ (f : ℕ → Action). f line names) (fold-roll-What (ℕ → Action) ArmAction Action Action (in_line setting) (arm_step setting) block_step statement_step (What-F.For targets e body))

-- an expression as a statement
pub expression_statement : ExpressionLaw
unfolding what_action block_action action_of arm_action
expression_statement setting e line names =
    ap (λ w. what_action setting w line names) (sym (what.rolls-Expr e))
    ∙ ap (λ (f : ℕ → Action). f line names) (fold-roll-What (ℕ → Action) ArmAction Action Action (in_line setting) (arm_step setting) block_step statement_step (What-F.Expr e))

-- an assignment
pub assignment : AssignmentLaw
unfolding what_action block_action action_of arm_action
assignment setting targets e line names =
    ap (λ w. what_action setting w line names) (sym (what.rolls-Assign targets e))
    ∙ ap (λ (f : ℕ → Action). f line names) (fold-roll-What (ℕ → Action) ArmAction Action Action (in_line setting) (arm_step setting) block_step statement_step (What-F.Assign targets e))

-- an augmented assignment
pub augmented : AugmentedLaw
unfolding what_action block_action action_of arm_action
augmented setting name op e line names =
    ap (λ w. what_action setting w line names) (sym (what.rolls-Aug name op e))
    ∙ ap (λ (f : ℕ → Action). f line names) (fold-roll-What (ℕ → Action) ArmAction Action Action (in_line setting) (arm_step setting) block_step statement_step (What-F.Aug name op e))

-- a `return` is its value
pub return_statement : ReturnLaw
unfolding what_action block_action action_of arm_action
return_statement setting e line names =
    ap (λ w. what_action setting w line names) (sym (what.rolls-Return e))
    ∙ ap (λ (f : ℕ → Action). f line names) (fold-roll-What (ℕ → Action) ArmAction Action Action (in_line setting) (arm_step setting) block_step statement_step (What-F.Return e))

-- an `assert` is its test, its message and the exception
pub assert_statement : AssertLaw
unfolding what_action block_action action_of arm_action
assert_statement setting test message line names =
    ap (λ w. what_action setting w line names) (sym (what.rolls-Assert test message))
    ∙ ap (λ (f : ℕ → Action). f line names) (fold-roll-What (ℕ → Action) ArmAction Action Action (in_line setting) (arm_step setting) block_step statement_step (What-F.Assert test message))

-- `pass`
pub passes : (setting : Setting) (line : ℕ) (names : Names) → what_action setting what.Pass line names ≡ gives (normally names)
unfolding what_action
passes setting line names =
    ap (λ w. what_action setting w line names) (sym what.rolls-Pass)
    ∙ ap (λ (f : ℕ → Action). f line names) (fold-roll-What (ℕ → Action) ArmAction Action Action (in_line setting) (arm_step setting) block_step statement_step What-F.Pass)

-- `break`
pub breaks : (setting : Setting) (line : ℕ) (names : Names) → what_action setting what.Break line names ≡ gives (left Break names)
unfolding what_action
breaks setting line names =
    ap (λ w. what_action setting w line names) (sym what.rolls-Break)
    ∙ ap (λ (f : ℕ → Action). f line names) (fold-roll-What (ℕ → Action) ArmAction Action Action (in_line setting) (arm_step setting) block_step statement_step What-F.Break)

-- `continue`
pub continues : (setting : Setting) (line : ℕ) (names : Names) → what_action setting what.Continue line names ≡ gives (left Continue names)
unfolding what_action
continues setting line names =
    ap (λ w. what_action setting w line names) (sym what.rolls-Continue)
    ∙ ap (λ (f : ℕ → Action). f line names) (fold-roll-What (ℕ → Action) ArmAction Action Action (in_line setting) (arm_step setting) block_step statement_step What-F.Continue)

-- the three of them
pub leaving : LeavingLaw
leaving = record { passes = passes; breaks = breaks; continues = continues }
