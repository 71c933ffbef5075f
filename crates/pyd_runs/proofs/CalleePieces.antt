-- The nodes of the piece that takes the place of a composite have their callees.
use Rattle.std.proofs.Common.{ℕ, zero, suc, ◌-◌, nat_eq, List, [], ◌∷◌, length, map, Bool, true, false, if◌then◌else◌, Option, Some, None}
use Rattle.std.specs.List.{slice_get}
use Rattle.pyd_value.specs.declared.value.Value.{Value}
use Rattle.pyd_value.specs.declared.value.Value.TheVariants as value
use Rattle.pyd_value.specs.declared.fault.Fault.TheVariants.{Raised, Limit}
use Rattle.pyd_value.specs.declared.fault.Limit.TheVariants.{Turn, Depth}
use Rattle.pyd_value.specs.declared.fault.Kind.TheVariants.{NameError, TypeError}
use Rattle.pyd_value.specs.Truth.{is_true}
use Rattle.pyd_tree.specs.declared.statement.Arm.{Arm, out-Arm}
use Rattle.pyd_tree.specs.declared.statement.Targets.{Targets}
use Rattle.pyd_tree.specs.declared.file.File.{File}
use Rattle.pyd_tree.specs.declared.file.Func.{Func}
use Rattle.pyd_names.specs.Binding.{locals, function}
use Rattle.pyd_meaning.specs.declared.limits.Limits.{Limits}
use Rattle.pyd_meaning.specs.Loops.{Items, items_over}
use Rattle.pyd_meaning.specs.Statement.{calls_range}
use Rattle.pyd_meaning.specs.Module.{setting_at}
use Rattle.pyd_ir.specs.declared.arg.Arg.{Arg}
use Rattle.pyd_ir.specs.declared.arg.Arg.TheVariants.{Known, Unbound}
use Rattle.pyd_ir.specs.declared.node.Node.{Node}
use Rattle.pyd_ir.specs.declared.work.Frame.{Frame}
use Rattle.pyd_ir.specs.declared.work.Frame.TheVariants.{Again}
use Rattle.pyd_ir.specs.declared.work.Side.{Side}
use Rattle.pyd_ir.specs.declared.work.Work.{Work}
use Rattle.pyd_ir.specs.declared.work.Work.TheVariants.{Op, Read, Call, Stop, Print, Run, Cond, While, For, Pick, Enter}
use Rattle.pyd_scope.specs.Numbering.{Point}
use Rattle.pyd_scope.specs.Passages.{passage_at}
use Rattle.pyd_translate.specs.declared.at.Start.{Start}
use Rattle.pyd_translate.specs.declared.at.Start.TheVariants as start
use Rattle.pyd_translate.specs.Compounds.{Compound, Choice, WhileLoop, ForLoop, Simple, compound_at, line_at}
use Rattle.pyd_translate.specs.Making.{Making, Context, pure, emit, stop, ◌>>>◌}
use Rattle.pyd_translate.specs.Slots.{unbound_slots}
use Rattle.pyd_translate.specs.Sides.{side_unfolds}
use Rattle.pyd_translate.specs.Statements.{Done, context, header, ported, bind_targets}
use Rattle.pyd_translate.specs.Starts.{passage}
use Rattle.pyd_refine.specs.Composites.{arms_of, arm_point, with_parameters, only_value, if_control, started, arm_tested, arm_refined, turn_refined, while_refined, item_turn, item_refined, items_refined, loop_refined, side_refined, body_refined, function_refined, context_of, work_refined, refined_piece}
use Rattle.pyd_runs.specs.Callees.{HaveCallees}
use Rattle.pyd_runs.proofs.CalleeNodes.{Callees, then_callees, done_callees, pure_callees, stop_callees}
use Rattle.pyd_runs.proofs.CalleeExpressions.{side_callees}
use Rattle.pyd_runs.proofs.CalleeStatements.{targets_callees, header_callees, ported_callees}
use Rattle.pyd_runs.proofs.CalleeRests.{block_callees}

module _ (file : File) where
  -- the statements at a start, and then the rest
  pub started_callees : (routine depth : ℕ) (s : Start) (rest : List Frame) (env : List Arg)
      → Callees file (started file routine depth s rest env)
  started_callees routine depth s rest env =
      block_callees file routine depth (passage file routine s) rest env

  module _ (routine depth k : ℕ) (rest : List Frame) where
    -- the test of an arm and its Cond
    arm_callees : (o : Option Arm) (arm : ℕ) (p : Point) (env : List Arg)
        → Callees file (arm_tested file routine depth k rest o arm p env)
    arm_callees None arm p env = started_callees routine depth (start.Otherwise k) rest env
    arm_callees (Some a) arm p env =
        let at = context routine depth (out-Arm a).line env in
        done_callees file env (header file (out-Arm a).test p at)
        (λ t. emit at (Cond t k arm rest env) >>> ported (locals file routine))
        (header_callees file (out-Arm a).test p at)
        (λ t. ported_callees file (locals file routine) at (Cond t k arm rest env) tt)

    -- a Cond
    cond_callees : (arms : List Arm) (p : Point) (arm : ℕ) (o : Option Arm) (b : Bool)
        (env : List Arg) → Callees file (arm_refined file routine depth k rest arms p arm o b env)
    cond_callees arms p arm None b env =
        started_callees routine depth (start.Otherwise k) rest env
    cond_callees arms p arm (Some a) true env =
        started_callees routine depth (start.Arm k arm) rest env
    cond_callees arms p arm (Some a) false env =
        arm_callees (slice_get arms (suc arm)) (suc arm) (arm_point arms (suc arm) p) env

    -- the body of a loop, and then its next turn
    turn_callees : (left line turns : ℕ) (over : Arg) (env : List Arg)
        → Callees file (turn_refined file routine depth k rest left line turns over env)
    turn_callees zero line turns over env =
        stop_callees file Done (context routine depth line env) (Limit Turn line)
    turn_callees (suc left) line turns over env =
        started_callees routine depth (start.LoopBody k) (Again k (suc turns) over ∷ rest) env

    -- a While
    while_callees : (b : Bool) (left line turns : ℕ) (env : List Arg)
        → Callees file (while_refined file routine depth k rest b left line turns env)
    while_callees false left line turns env = started_callees routine depth start.Rest rest env
    while_callees true left line turns env = turn_callees left line turns (Known value.None) env

    -- a turn with an item
    item_callees : (left : ℕ) (targets : Targets) (v : Value) (line turns : ℕ) (over : Arg)
        (env : List Arg)
        → Callees file (item_turn file routine depth k rest left targets v line turns over env)
    item_callees zero targets v line turns over env = turn_callees zero line turns over env
    item_callees (suc left) targets v line turns over env =
        let at = context routine depth line env in
        let slots = locals file routine in
        done_callees file env (bind_targets slots targets.tuple targets.names at (Known v))
        (turn_refined file routine depth k rest (suc left) line turns over)
        (targets_callees file slots targets.tuple targets.names at (Known v))
        (turn_callees (suc left) line turns over)

    -- with an item or without
    maybe_callees : (left : ℕ) (targets : Targets) (o : Option Value) (line turns : ℕ) (over : Arg)
        (env : List Arg)
        → Callees file (item_refined file routine depth k rest left targets o line turns over env)
    maybe_callees left targets None line turns over env =
        started_callees routine depth start.Rest rest env
    maybe_callees left targets (Some v) line turns over env =
        item_callees left targets v line turns over env

    -- a For
    items_callees : (left : ℕ) (targets : Targets) (o : Option Items) (line turns : ℕ) (over : Arg)
        (env : List Arg)
        → Callees file (items_refined file routine depth k rest left targets o line turns over env)
    items_callees left targets None line turns over env =
        stop_callees file Done (context routine depth line env) (Raised TypeError line)
    items_callees left targets (Some items) line turns over env =
        maybe_callees left targets (items turns) line turns over env

    -- a loop's node
    loop_callees : (limits : Limits) (c : Compound) (line turns : ℕ) (over : Arg) (v : Value)
        (env : List Arg)
        → Callees file (loop_refined file limits routine depth k rest c line turns over v env)
    loop_callees limits (WhileLoop test body) line turns over v env =
        while_callees (is_true v) (limits.turns - turns) line turns env
    loop_callees limits (ForLoop targets e body) line turns over v env =
        items_callees (limits.turns - turns) targets
        (items_over (calls_range (setting_at file limits routine depth) e) v) line turns over env
    loop_callees limits (Choice arms otherwise) line turns over v env =
        started_callees routine depth start.Rest rest env
    loop_callees limits Simple line turns over v env =
        started_callees routine depth start.Rest rest env

  -- a Pick
  pick_callees : (b : Bool) (first second : Side) (at : Context)
      → Callees file (side_refined file b first second at)
  pick_callees b first second at =
      then_callees file (side_unfolds file (if b then first else second) at)
      (λ a. pure (only_value a)) (side_callees file (if b then first else second) at)
      (λ a. pure_callees file (only_value a))

  -- the body of a function
  body_callees : (left func : ℕ) (f : Func) (args : List Arg) (at : Context)
      → Callees file (body_refined file left func f args at)
  body_callees zero func f args at = stop_callees file Done at (Limit Depth at.line)
  body_callees (suc left) func f args at =
      let slots = locals file func in
      let env = with_parameters slots (unbound_slots slots) (map (λ x. x.1) f.params) args in
      then_callees file (started file func (suc at.depth) start.Body [] env)
      (λ d. pure (only_value d.value)) (started_callees func (suc at.depth) start.Body [] env)
      (λ d. pure_callees file (only_value d.value))

  -- an Enter
  counted_callees : (b : Bool) (left func : ℕ) (f : Func) (args : List Arg) (at : Context)
      → Callees file
      (if b then body_refined file left func f args at else stop at (Raised TypeError at.line))
  counted_callees true left func f args at = body_callees left func f args at
  counted_callees false left func f args at = stop_callees file Done at (Raised TypeError at.line)

  enter_callees : (limits : Limits) (o : Option Func) (func : ℕ) (args : List Arg) (at : Context)
      → Callees file (function_refined file limits o func args at)
  enter_callees limits None func args at = stop_callees file Done at (Raised NameError at.line)
  enter_callees limits (Some f) func args at =
      counted_callees (nat_eq (length args) (length f.params)) (limits.depth - at.depth) func f args
      at

  -- a composite that goes on by the value of its control
  control_callees : (o : Option Value) (at : Context) (next : Value → Making Done)
      → ((v : Value) → Callees file (next v)) → Callees file (if_control o at next)
  control_callees None at next is = stop_callees file Done at (Raised NameError at.line)
  control_callees (Some v) at next is = is v

  -- each composite, by its work
  work_callees : (limits : Limits) (w : Work) (node : Node) (control : Option Value)
      → Callees file (work_refined file limits w node control)
  work_callees limits (Op op args) node control = pure_callees file (only_value Unbound)
  work_callees limits (Read arg kind) node control = pure_callees file (only_value Unbound)
  work_callees limits (Call func args) node control = pure_callees file (only_value Unbound)
  work_callees limits (Stop fault) node control = pure_callees file (only_value Unbound)
  work_callees limits (Print args) node control = pure_callees file (only_value Unbound)
  work_callees limits (Run func args) node control = pure_callees file (only_value Unbound)
  work_callees limits (Cond test k arm rest env) node control =
      let arms = arms_of (compound_at file node.routine k) in
      control_callees control (context_of node env) _ (λ v.
      cond_callees node.routine node.depth k rest arms (passage_at file node.routine k).point
      arm (slice_get arms arm) (is_true v) env)
  work_callees limits (While test k turns rest env) node control =
      control_callees control (context_of node env) _ (λ v.
      loop_callees node.routine node.depth k rest limits (compound_at file node.routine k)
      (line_at file node.routine k) turns test v env)
  work_callees limits (For over k turns rest env) node control =
      control_callees control (context_of node env) _ (λ v.
      loop_callees node.routine node.depth k rest limits (compound_at file node.routine k)
      (line_at file node.routine k) turns over v env)
  work_callees limits (Pick test first second env) node control =
      control_callees control (context_of node env) _ (λ v.
      pick_callees (is_true v) first second (context_of node env))
  work_callees limits (Enter func args) node control =
      enter_callees limits (function file func) func args (context_of node [])

-- each piece
pub piece_callees : (file : File) (limits : Limits) (node : Node) (control : Option Value)
    (ids : ℕ) → HaveCallees file (refined_piece file limits node control ids).nodes
piece_callees file limits node control ids = work_callees file limits node.work node control ids
