-- What stands in a draft once the nodes of a composite were made, and those nodes by the parts that code has.
use Rattle.std.specs.Prelude.{◌≡◌, ℕ, suc, ◌-◌, List, [], ◌∷◌, ◌++◌, length, replicate, Bool, Option, Some}
use Rattle.std.specs.List.{slice_get}
use Rattle.pyd_value.specs.declared.value.Value.{Value}
use Rattle.pyd_tree.specs.declared.expression.Expr.{Expr}
use Rattle.pyd_tree.specs.declared.statement.Arm.{Arm}
use Rattle.pyd_tree.specs.declared.statement.Stmt.{Stmt}
use Rattle.pyd_tree.specs.declared.statement.Targets.{Targets}
use Rattle.pyd_tree.specs.declared.statement.What.{out-What}
use Rattle.pyd_names.specs.Binding.{locals}
use Rattle.pyd_meaning.specs.Loops.{items_over}
use Rattle.pyd_meaning.specs.Module.{setting_at}
use Rattle.pyd_meaning.specs.Statement.{calls_range}
use Rattle.pyd_ir.specs.declared.arg.Arg.{Arg}
use Rattle.pyd_ir.specs.declared.arg.Arg.TheVariants.{Unbound}
use Rattle.pyd_ir.specs.declared.node.Node.{Node}
use Rattle.pyd_ir.specs.declared.work.Frame.{Frame}
use Rattle.pyd_ir.specs.declared.work.Frame.TheVariants.{Again}
use Rattle.pyd_scope.specs.Numbering.{Point}
use Rattle.pyd_scope.specs.Passages.{passage_at}
use Rattle.pyd_translate.specs.declared.at.Start.{Start}
use Rattle.pyd_translate.specs.declared.at.Start.TheVariants as start
use Rattle.pyd_translate.specs.declared.draft.Draft.{Draft}
use Rattle.pyd_translate.specs.declared.setting.Setting.{Setting}
use Rattle.pyd_translate.specs.Compounds.{compound_of, compound_at, line_at}
use Rattle.pyd_translate.specs.Drafts.{Makes}
use Rattle.pyd_translate.specs.Flows.{file_in}
use Rattle.pyd_translate.specs.Making.{Making, Piece, pure, ◌>>>◌}
use Rattle.pyd_translate.specs.Starts.{done_or_stopped}
use Rattle.pyd_translate.specs.Statements.{Done, done, Onward}
use Rattle.pyd_refine.specs.declared.turn.Round.{Round}
use Rattle.pyd_refine.specs.Composites.{arms_of, only_value, started, arm_tested, arm_refined, while_refined, item_turn, items_refined, loop_refined}

-- a piece that ends behind a Stop too: there the slots are as they were, and the value is left out
abbrev pub ended : List Arg → Piece Done → Piece Done
ended env p = record { nodes = p.nodes; got = Some (done_or_stopped env p.got); next = p.next }

-- a draft has become what was there before with the nodes of a making, which ended with these slots and this value
abbrev pub Ends : Draft → Making Done → List Arg → Draft → List Arg → Arg → Type 0
Ends before u env after slots v = Makes before (λ ids. ended env (u ids)) after (Some (done slots v))

-- the statements at a start, and then the rest
abbrev pub started_in : Setting → Start → List Frame → Onward
started_in at s rest = started (file_in at) at.routine at.depth s rest

-- the arms of the `if` of a number
abbrev pub arms_at : Setting → ℕ → List Arm
arms_at at k = arms_of (compound_at (file_in at) at.routine k)

-- an `if` from the truth of an arm's test on
abbrev pub cond_in : Setting → ℕ → ℕ → List Frame → Bool → Onward
cond_in at k arm rest truth =
    arm_refined (file_in at) at.routine at.depth k rest (arms_at at k)
    (passage_at (file_in at) at.routine k).point arm (slice_get (arms_at at k) arm) truth

-- the test of an arm that may not be there, at a place
abbrev pub tested_in : Setting → ℕ → ℕ → Option Arm → List Frame → Point → Onward
tested_in at k arm a rest p = arm_tested (file_in at) at.routine at.depth k rest a arm p

-- the turns that a loop has left
abbrev pub left_of : Round → ℕ
left_of r = r.limits.turns - r.turns

-- a loop, by its control and that control's value
abbrev pub loop_in : Setting → Round → Arg → Value → Onward
loop_in at r a v =
    loop_refined (file_in at) r.limits at.routine at.depth r.stmt r.rest.now
    (compound_at (file_in at) at.routine r.stmt) (line_at (file_in at) at.routine r.stmt) r.turns a v

-- the same by the statement
abbrev pub statement_in : Setting → Round → Stmt → Arg → Value → Onward
statement_in at r s a v =
    loop_refined (file_in at) r.limits at.routine at.depth r.stmt r.rest.now
    (compound_of (out-What s.what)) s.line r.turns a v

-- a `while` by the truth of its test
abbrev pub while_in : Setting → Round → ℕ → Bool → Onward
while_in at r line truth =
    while_refined (file_in at) at.routine at.depth r.stmt r.rest.now truth (left_of r) line r.turns

-- a `for` by its iterable
abbrev pub for_in : Setting → Round → ℕ → Targets → Expr → Arg → Value → Onward
for_in at r line targets e a v =
    items_refined (file_in at) at.routine at.depth r.stmt r.rest.now (left_of r) targets
    (items_over (calls_range (setting_at (file_in at) r.limits at.routine at.depth) e) v) line
    r.turns a

-- a turn of a `for` with an item
abbrev pub item_in : Setting → Round → ℕ → Targets → Value → Arg → Onward
item_in at r line targets v a =
    item_turn (file_in at) at.routine at.depth r.stmt r.rest.now (left_of r) targets v line r.turns a

-- the suite of a loop, and then its next turn before the rest
abbrev pub turn_in : Setting → Round → Arg → Onward
turn_in at r a = started_in at (start.LoopBody r.stmt) (Again r.stmt (suc r.turns) a ∷ r.rest.now)

-- the body of a function one deeper, with these arguments of its slots, and its value alone
abbrev pub entered : Setting → ℕ → List Arg → Making Done
entered at func env =
    started (file_in at) func (suc at.depth) start.Body [] env >>> (λ d. pure (only_value d.value))

-- the slots of a function that is entered: the arguments, and behind them no slot is bound
abbrev pub taken : Setting → ℕ → List Arg → List Arg
taken at func args = args ++ replicate (length (locals (file_in at) func) - length args) Unbound

-- a routine that was called at a depth is that of a node
pub record IsSettingOf (node : Node) (at : Setting) : Type 0 where
  pub routine : at.routine ≡ node.routine
  pub depth : at.depth ≡ node.depth
