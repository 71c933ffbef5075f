-- The piece of each composite is new.
use Rattle.std.proofs.Common.{ℕ, zero, suc, ◌-◌, nat_eq, List, [], ◌∷◌, ◌++◌, length, map, Bool, true, false, if◌then◌else◌, Option, Some, None, refl, arith}
use Rattle.std.specs.List.{slice_get}
use Rattle.pyd_value.specs.declared.value.Value.{Value}
use Rattle.pyd_value.specs.declared.value.Value.TheVariants as value
use Rattle.pyd_value.specs.declared.fault.Fault.TheVariants.{Raised, Limit}
use Rattle.pyd_value.specs.declared.fault.Limit.TheVariants.{Turn, Depth}
use Rattle.pyd_value.specs.declared.fault.Kind.TheVariants.{NameError, TypeError}
use Rattle.pyd_value.specs.Truth.{is_true}
use Rattle.pyd_tree.specs.declared.statement.Arm.{Arm, out-Arm}
use Rattle.pyd_tree.specs.declared.statement.Targets.{Targets}
use Rattle.pyd_tree.specs.declared.file.File.{File}
use Rattle.pyd_tree.specs.declared.file.Func.{Func}
use Rattle.pyd_names.specs.Binding.{locals, function}
use Rattle.pyd_meaning.specs.declared.limits.Limits.{Limits}
use Rattle.pyd_meaning.specs.Loops.{Items, items_over}
use Rattle.pyd_meaning.specs.Statement.{calls_range}
use Rattle.pyd_meaning.specs.Module.{setting_at}
use Rattle.pyd_ir.specs.declared.arg.Arg.{Arg}
use Rattle.pyd_ir.specs.declared.arg.Arg.TheVariants.{Known, Unbound}
use Rattle.pyd_ir.specs.declared.node.Node.{Node}
use Rattle.pyd_ir.specs.declared.work.Frame.{Frame}
use Rattle.pyd_ir.specs.declared.work.Frame.TheVariants.{Again}
use Rattle.pyd_ir.specs.declared.work.Side.{Side}
use Rattle.pyd_ir.specs.declared.work.Work.{Work}
use Rattle.pyd_ir.specs.declared.work.Work.TheVariants.{Op, Read, Call, Stop, Print, Run, Cond, While, For, Pick, Enter}
use Rattle.pyd_ir.specs.Arguments.{arguments, rest_arguments, side_arguments}
use Rattle.pyd_scope.specs.Numbering.{Point}
use Rattle.pyd_scope.specs.Passages.{passage_at}
use Rattle.pyd_translate.specs.declared.at.Start.{Start}
use Rattle.pyd_translate.specs.declared.at.Start.TheVariants as start
use Rattle.pyd_translate.specs.Compounds.{Compound, Choice, WhileLoop, ForLoop, Simple, compound_at, line_at}
use Rattle.pyd_translate.specs.Making.{Making, Context, pure, emit, stop, ◌>>>◌}
use Rattle.pyd_translate.specs.Naming.{Numbers, AreAmong, Naming}
use Rattle.pyd_translate.specs.Slots.{set_slot, unbound_slots}
use Rattle.pyd_translate.specs.Sides.{side_unfolds}
use Rattle.pyd_translate.specs.Starts.{passage}
use Rattle.pyd_translate.specs.Statements.{Done, context, header, ported, bind_targets}
use Rattle.pyd_translate.proofs.Ordering.{IsIn, AreIn, in_up, are_in_up, are_below_both, are_left, are_right, among_are, any_marked, Orders, IsLowDone, then_orders, done_orders, stop_orders, if_orders}
use Rattle.pyd_translate.proofs.UnfoldedOrder.{expression_orders, side_orders}
use Rattle.pyd_translate.proofs.StatementOrder.{set_below, targets_order, finished_orders, ported_orders}
use Rattle.pyd_translate.proofs.RestOrder.{any_ports, block_names}
use Rattle.pyd_refine.specs.Composites.{arms_of, arm_point, with_parameters, only_value, if_control, started, arm_tested, arm_refined, turn_refined, while_refined, item_turn, item_refined, items_refined, loop_refined, side_refined, body_refined, function_refined, context_of, slots_of, work_refined, refined}
use Rattle.pyd_refine.specs.Laws.{PieceOrder}
use Rattle.pyd_refine.proofs.Ordering.{among-right, all-more}
use Rattle.pyd_refine.proofs.Naming.{piece_naming, known-in, may_name, new-piece}

module _ (naming : Naming) (file : File) where
  -- slots of which none is bound
  unbound-in : {A : Type 0} (n : ℕ) (slots : List A) → AreIn naming n (unbound_slots slots)
  unbound-in n [] = tt
  unbound-in n (slot ∷ slots) = (tt, unbound-in n slots)

  -- the slots of a call
  parameters-in : (n : ℕ) (slots : List (List ℕ)) (env : List Arg) (names : List (List ℕ)) (args : List Arg)
      → AreIn naming n env → AreIn naming n args → AreIn naming n (with_parameters slots env names args)
  parameters-in n slots env [] args p q = p
  parameters-in n slots env (name ∷ names) [] p q = p
  parameters-in n slots env (name ∷ names) (a ∷ args) p q =
      parameters-in n slots (set_slot slots env name a) names args (set_below naming n slots env name a p q.0) q.1

  -- a value alone
  value-orders : (n : ℕ) (a : Arg) → IsIn naming n a → Orders naming (IsLowDone naming) n (pure (only_value a))
  value-orders n a p = finished_orders naming n [] a tt p

  -- the statements at a start, and then the rest
  started-orders : (routine depth : ℕ) (s : Start) (rest : List Frame) (n : ℕ) (env : List Arg)
      → AreIn naming n (rest_arguments rest) → AreIn naming n env
      → Orders naming (IsLowDone naming) n (started file routine depth s rest env)
  started-orders routine depth s rest n env below low ids from le marks =
      block_names naming file routine depth (passage file routine s) rest ids env from
      (are_in_up naming n ids (rest_arguments rest) le below) (are_in_up naming n ids env le low) marks

  module _ (routine depth k : ℕ) (rest : List Frame) (n : ℕ) (env : List Arg)
      (below : AreIn naming n (rest_arguments rest)) (low : AreIn naming n env) where
    -- the test of an arm and its Cond
    arm-orders : (o : Option Arm) (arm : ℕ) (p : Point)
        → Orders naming (IsLowDone naming) n (arm_tested file routine depth k rest o arm p env)
    arm-orders None arm p = started-orders routine depth (start.Otherwise k) rest n env below low
    arm-orders (Some a) arm p =
        let at = context routine depth (out-Arm a).line env in
        done_orders naming (IsIn naming) n env (header file (out-Arm a).test p at)
        (λ t. emit at (Cond t k arm rest env) >>> ported (locals file routine)) low
        (expression_orders naming file (out-Arm a).test p.expression at n low)
        (λ t next more r. ported_orders naming (locals file routine) at (Cond t k arm rest env) next (
          r,
          are_below_both naming next (rest_arguments rest) env
              (are_in_up naming n next (rest_arguments rest) more below) (are_in_up naming n next env more low),
        ) refl)

    -- a Cond
    cond-orders : (arms : List Arm) (p : Point) (arm : ℕ) (o : Option Arm) (b : Bool)
        → Orders naming (IsLowDone naming) n (arm_refined file routine depth k rest arms p arm o b env)
    cond-orders arms p arm None b = started-orders routine depth (start.Otherwise k) rest n env below low
    cond-orders arms p arm (Some a) true = started-orders routine depth (start.Arm k arm) rest n env below low
    cond-orders arms p arm (Some a) false = arm-orders (slice_get arms (suc arm)) (suc arm) (arm_point arms (suc arm) p)

    -- a turn
    turn-orders : (left line turns : ℕ) (over : Arg) → IsIn naming n over
        → Orders naming (IsLowDone naming) n (turn_refined file routine depth k rest left line turns over env)
    turn-orders zero line turns over is = stop_orders naming (IsLowDone naming) n (context routine depth line env) (Limit Turn line)
    turn-orders (suc left) line turns over is =
        started-orders routine depth (start.LoopBody k) (Again k (suc turns) over ∷ rest) n env (is, below) low

    -- a While
    while-orders : (b : Bool) (left line turns : ℕ)
        → Orders naming (IsLowDone naming) n (while_refined file routine depth k rest b left line turns env)
    while-orders false left line turns = started-orders routine depth start.Rest rest n env below low
    while-orders true left line turns = turn-orders left line turns (Known value.None) tt

  module _ (routine depth k : ℕ) (rest : List Frame) (n : ℕ) (env : List Arg)
      (below : AreIn naming n (rest_arguments rest)) (low : AreIn naming n env) where
    -- a turn with an item
    item-orders : (left : ℕ) (targets : Targets) (v : Value) (line turns : ℕ) (over : Arg) → IsIn naming n over
        → Orders naming (IsLowDone naming) n (item_turn file routine depth k rest left targets v line turns over env)
    item-orders zero targets v line turns over is = turn-orders routine depth k rest n env below low zero line turns over is
    item-orders (suc left) targets v line turns over is =
        let at = context routine depth line env in
        done_orders naming (AreIn naming) n env
        (bind_targets (locals file routine) targets.tuple targets.names at (Known v))
        (turn_refined file routine depth k rest (suc left) line turns over) low
        (targets_order naming (locals file routine) targets.tuple targets.names at (Known v) n low tt)
        (λ slots next more set. turn-orders routine depth k rest next slots
        (are_in_up naming n next (rest_arguments rest) more below) set (suc left) line turns over
        (in_up naming n next over more is))

    -- with an item or without
    maybe-orders : (left : ℕ) (targets : Targets) (o : Option Value) (line turns : ℕ) (over : Arg) → IsIn naming n over
        → Orders naming (IsLowDone naming) n (item_refined file routine depth k rest left targets o line turns over env)
    maybe-orders left targets None line turns over is = started-orders routine depth start.Rest rest n env below low
    maybe-orders left targets (Some v) line turns over is = item-orders left targets v line turns over is

    -- a For
    items-orders : (left : ℕ) (targets : Targets) (o : Option Items) (line turns : ℕ) (over : Arg) → IsIn naming n over
        → Orders naming (IsLowDone naming) n (items_refined file routine depth k rest left targets o line turns over env)
    items-orders left targets None line turns over is =
        stop_orders naming (IsLowDone naming) n (context routine depth line env) (Raised TypeError line)
    items-orders left targets (Some items) line turns over is = maybe-orders left targets (items turns) line turns over is

    -- a loop's node
    loop-orders : (limits : Limits) (c : Compound) (line turns : ℕ) (over : Arg) (v : Value) → IsIn naming n over
        → Orders naming (IsLowDone naming) n (loop_refined file limits routine depth k rest c line turns over v env)
    loop-orders limits (WhileLoop test body) line turns over v is =
        while-orders routine depth k rest n env below low (is_true v) (limits.turns - turns) line turns
    loop-orders limits (ForLoop targets e body) line turns over v is =
        items-orders (limits.turns - turns) targets (items_over (calls_range (setting_at file limits routine depth) e) v) line turns over is
    loop-orders limits (Choice arms otherwise) line turns over v is = started-orders routine depth start.Rest rest n env below low
    loop-orders limits Simple line turns over v is = started-orders routine depth start.Rest rest n env below low

  module _ (n : ℕ) (at : Context) where
    -- a side, by the truth of a test
    chosen-orders : (b : Bool) (first second : Side) → AreIn naming n at.env
        → AreIn naming n (side_arguments first) → AreIn naming n (side_arguments second)
        → Orders naming (IsIn naming) n (side_unfolds file (if b then first else second) at)
    chosen-orders true first second env p q = side_orders naming file first at n env p
    chosen-orders false first second env p q = side_orders naming file second at n env q

    -- a Pick
    pick-orders : (b : Bool) (first second : Side) → AreIn naming n at.env
        → AreIn naming n (side_arguments first) → AreIn naming n (side_arguments second)
        → Orders naming (IsLowDone naming) n (side_refined file b first second at)
    pick-orders b first second env p q =
        then_orders naming (IsIn naming) (IsLowDone naming) n
        (side_unfolds file (if b then first else second) at) (λ a. pure (only_value a))
        (chosen-orders b first second env p q)
        (λ a next le low. value-orders next a low)

    -- the body of a function
    body-orders : (left func : ℕ) (f : Func) (args : List Arg) → AreIn naming n args
        → Orders naming (IsLowDone naming) n (body_refined file left func f args at)
    body-orders zero func f args p = stop_orders naming (IsLowDone naming) n at (Limit Depth at.line)
    body-orders (suc left) func f args p =
        let slots = locals file func in
        let env = with_parameters slots (unbound_slots slots) (map (λ x. x.1) f.params) args in
        then_orders naming (IsLowDone naming) (IsLowDone naming) n
        (started file func (suc at.depth) start.Body [] env) (λ d. pure (only_value d.value))
        (started-orders func (suc at.depth) start.Body [] n env tt
        (parameters-in n slots (unbound_slots slots) (map (λ x. x.1) f.params) args (unbound-in n slots) p))
        (λ d next le low. value-orders next d.value low.1)

    -- an Enter
    enter-orders : (limits : Limits) (o : Option Func) (func : ℕ) (args : List Arg) → AreIn naming n args
        → Orders naming (IsLowDone naming) n (function_refined file limits o func args at)
    enter-orders limits None func args p = stop_orders naming (IsLowDone naming) n at (Raised NameError at.line)
    enter-orders limits (Some f) func args p =
        if_orders naming (IsLowDone naming) n (nat_eq (length args) (length f.params))
        (body_refined file (limits.depth - at.depth) func f args at) (stop at (Raised TypeError at.line))
        (body-orders (limits.depth - at.depth) func f args p)
        (stop_orders naming (IsLowDone naming) n at (Raised TypeError at.line))

  -- a composite that goes on by the value of its control
  control-orders : (n : ℕ) (o : Option Value) (at : Context) (next : Value → Making Done)
      → ((v : Value) → Orders naming (IsLowDone naming) n (next v))
      → Orders naming (IsLowDone naming) n (if_control o at next)
  control-orders n None at next p = stop_orders naming (IsLowDone naming) n at (Raised NameError at.line)
  control-orders n (Some v) at next p = p v

  -- each composite
  pub work-orders : (limits : Limits) (w : Work) (node : Node) (chosen : Option Value) (n : ℕ)
      → AreIn naming n (arguments w) → Orders naming (IsLowDone naming) n (work_refined file limits w node chosen)
  work-orders limits (Op op args) node chosen n p = value-orders n Unbound tt
  work-orders limits (Read arg kind) node chosen n p = value-orders n Unbound tt
  work-orders limits (Call func args) node chosen n p = value-orders n Unbound tt
  work-orders limits (Stop fault) node chosen n p = value-orders n Unbound tt
  work-orders limits (Print args) node chosen n p = value-orders n Unbound tt
  work-orders limits (Run func args) node chosen n p = value-orders n Unbound tt
  work-orders limits (Cond test k arm rest env) node chosen n p =
      let below = are_left naming n (rest_arguments rest) env p.1 in
      let low = are_right naming n (rest_arguments rest) env p.1 in
      control-orders n chosen (context_of node env) _ (λ v.
      cond-orders node.routine node.depth k rest n env below low (arms_of (compound_at file node.routine k))
      (passage_at file node.routine k).point arm (slice_get (arms_of (compound_at file node.routine k)) arm) (is_true v))
  work-orders limits (While test k turns rest env) node chosen n p =
      let below = are_left naming n (rest_arguments rest) env p.1 in
      let low = are_right naming n (rest_arguments rest) env p.1 in
      control-orders n chosen (context_of node env) _ (λ v.
      loop-orders node.routine node.depth k rest n env below low limits (compound_at file node.routine k) (line_at file node.routine k) turns test v p.0)
  work-orders limits (For over k turns rest env) node chosen n p =
      let below = are_left naming n (rest_arguments rest) env p.1 in
      let low = are_right naming n (rest_arguments rest) env p.1 in
      control-orders n chosen (context_of node env) _ (λ v.
      loop-orders node.routine node.depth k rest n env below low limits (compound_at file node.routine k) (line_at file node.routine k) turns over v p.0)
  work-orders limits (Pick test first second env) node chosen n p =
      let firsts = are_left naming n (side_arguments first) (side_arguments second ++ env) p.1 in
      let others = are_right naming n (side_arguments first) (side_arguments second ++ env) p.1 in
      let seconds = are_left naming n (side_arguments second) env others in
      let low = are_right naming n (side_arguments second) env others in
      control-orders n chosen (context_of node env) _ (λ v.
      pick-orders n (context_of node env) (is_true v) first second low firsts seconds)
  work-orders limits (Enter func args) node chosen n p =
      enter-orders n (context_of node []) limits (function file func) func args p

-- the slots that have ports are arguments
slots-known : (known : Numbers) (w : Work) → AreAmong known (arguments w) → AreAmong known (slots_of w)
slots-known known (Op op args) p = tt
slots-known known (Read arg kind) p = tt
slots-known known (Call func args) p = tt
slots-known known (Stop fault) p = tt
slots-known known (Print args) p = tt
slots-known known (Run func args) p = tt
slots-known known (Cond test k arm rest env) p = among-right known (rest_arguments rest) env p.1
slots-known known (While test k turns rest env) p = among-right known (rest_arguments rest) env p.1
slots-known known (For over k turns rest env) p = among-right known (rest_arguments rest) env p.1
slots-known known (Pick test first second env) p = tt
slots-known known (Enter func args) p = tt

-- the piece of a composite is new
pub piece-new : PieceOrder
piece-new file limits node chosen ids known below is =
    let naming = piece_naming known ids in
    new-piece known ids below (slots_of node.work) (refined file limits node chosen ids)
    (slots-known known node.work is)
    (work-orders naming file limits node.work node chosen ids
    (among_are naming ids (arguments node.work)
    (all-more known (may_name known ids ids) (known-in known ids below) (arguments node.work) is)
    (any_ports (arguments node.work)))
    ids (omega arith) (omega arith)
    (any_marked naming (λ k. refl) (refined file limits node chosen ids).nodes))
