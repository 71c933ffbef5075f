-- The piece of each composite, one rule for each way in which it goes on.
use Rattle.std.specs.Prelude.{◌≡◌, ◌≤◌, ℕ, suc, List, [], ◌∷◌, length, map, true, false, Option, Some, None}
use Rattle.std.specs.List.{slice_get}
use Rattle.pyd_value.specs.declared.value.Value.{Value}
use Rattle.pyd_value.specs.declared.value.Value.TheVariants as value
use Rattle.pyd_value.specs.declared.fault.Fault.TheVariants.{Limit}
use Rattle.pyd_value.specs.declared.fault.Limit.TheVariants.{Turn, Depth}
use Rattle.pyd_value.specs.declared.fault.Kind.TheVariants.{TypeError}
use Rattle.pyd_value.specs.Truth.{is_true}
use Rattle.pyd_tree.specs.declared.expression.Expr.{Expr}
use Rattle.pyd_tree.specs.declared.statement.Arm.{Arm, out-Arm}
use Rattle.pyd_tree.specs.declared.statement.Block.{Block}
use Rattle.pyd_tree.specs.declared.statement.Targets.{Targets}
use Rattle.pyd_tree.specs.declared.file.File.{File}
use Rattle.pyd_tree.specs.declared.file.Func.{Func}
use Rattle.pyd_names.specs.Binding.{locals, function}
use Rattle.pyd_meaning.specs.declared.limits.Limits.{Limits}
use Rattle.pyd_meaning.specs.Loops.{Items, items_over}
use Rattle.pyd_meaning.specs.Statement.{calls_range}
use Rattle.pyd_meaning.specs.Module.{setting_at}
use Rattle.pyd_ir.specs.declared.arg.Arg.{Arg}
use Rattle.pyd_ir.specs.declared.arg.Arg.TheVariants.{Known}
use Rattle.pyd_ir.specs.declared.node.Node.{Node}
use Rattle.pyd_ir.specs.declared.work.Frame.{Frame}
use Rattle.pyd_ir.specs.declared.work.Frame.TheVariants.{Again}
use Rattle.pyd_ir.specs.declared.work.Side.{Side}
use Rattle.pyd_ir.specs.declared.work.Work.TheVariants.{Cond, While, For, Pick, Enter}
use Rattle.pyd_scope.specs.Passages.{passage_at}
use Rattle.pyd_translate.specs.declared.at.Start.TheVariants as start
use Rattle.pyd_translate.specs.Compounds.{Choice, WhileLoop, ForLoop, compound_at, line_at}
use Rattle.pyd_translate.specs.Making.{pure, emit, stop, stop_by, ◌>>>◌}
use Rattle.pyd_translate.specs.Sides.{side_unfolds}
use Rattle.pyd_translate.specs.Slots.{unbound_slots}
use Rattle.pyd_translate.specs.Statements.{context, header, then_done, ported, bind_targets}
use Rattle.pyd_refine.specs.Composites.{arm_point, with_parameters, only_value, started, context_of, work_refined, header_of}

module _ (file : File) (limits : Limits) (node : Node) where
  -- a Cond: its arm's body, or the next arm's test and Cond, or the else block or nothing; then its rest
  pub record CondRules (test : Arg) (k arm : ℕ) (rest : List Frame) (env : List Arg) (v : Value)
      (arms : List Arm) (last : Option Block) (a : Arm) : Type 0 where
    pub taken : is_true v ≡ true
        → work_refined file limits (Cond test k arm rest env) node (Some v)
        ≡ started file node.routine node.depth (start.Arm k arm) rest env
    pub next : (b : Arm) → is_true v ≡ false → slice_get arms (suc arm) ≡ Some b
        → work_refined file limits (Cond test k arm rest env) node (Some v)
        ≡ then_done env
        (header file (out-Arm b).test
        (arm_point arms (suc arm) (passage_at file node.routine k).point)
        (context node.routine node.depth (out-Arm b).line env))
        (λ t. emit (context node.routine node.depth (out-Arm b).line env)
        (Cond t k (suc arm) rest env) >>> ported (locals file node.routine))
    pub otherwise : is_true v ≡ false → slice_get arms (suc arm) ≡ None
        → work_refined file limits (Cond test k arm rest env) node (Some v)
        ≡ started file node.routine node.depth (start.Otherwise k) rest env

  -- a While: its rest, or a Stop by TurnLimit, or the body with the next turn before its rest
  pub record WhileRules (test : Arg) (k turns : ℕ) (rest : List Frame) (env : List Arg) (v : Value)
      : Type 0 where
    pub over : is_true v ≡ false
        → work_refined file limits (While test k turns rest env) node (Some v)
        ≡ started file node.routine node.depth start.Rest rest env
    pub limit : is_true v ≡ true → limits.turns ≤ turns
        → work_refined file limits (While test k turns rest env) node (Some v)
        ≡ stop (header_of file node k env) (Limit Turn (line_at file node.routine k))
    pub turn : is_true v ≡ true → suc turns ≤ limits.turns
        → work_refined file limits (While test k turns rest env) node (Some v)
        ≡ started file node.routine node.depth (start.LoopBody k)
        (Again k (suc turns) (Known value.None) ∷ rest) env

  -- a For over what its iterable is: a Stop by TypeError, its rest, a Stop by TurnLimit, or its targets bound and the body with the next turn before its rest
  pub record ForRules (over : Arg) (k turns : ℕ) (rest : List Frame) (env : List Arg) (v : Value)
      (targets : Targets) (e : Expr) : Type 0 where
    pub nothing : items_over (calls_range (setting_at file limits node.routine node.depth) e) v ≡ None
        → work_refined file limits (For over k turns rest env) node (Some v)
        ≡ stop_by (header_of file node k env) TypeError
    pub done : (items : Items)
        → items_over (calls_range (setting_at file limits node.routine node.depth) e) v ≡ Some items
        → items turns ≡ None
        → work_refined file limits (For over k turns rest env) node (Some v)
        ≡ started file node.routine node.depth start.Rest rest env
    pub limit : (items : Items) (w : Value)
        → items_over (calls_range (setting_at file limits node.routine node.depth) e) v ≡ Some items
        → items turns ≡ Some w → limits.turns ≤ turns
        → work_refined file limits (For over k turns rest env) node (Some v)
        ≡ stop (header_of file node k env) (Limit Turn (line_at file node.routine k))
    pub turn : (items : Items) (w : Value)
        → items_over (calls_range (setting_at file limits node.routine node.depth) e) v ≡ Some items
        → items turns ≡ Some w → suc turns ≤ limits.turns
        → work_refined file limits (For over k turns rest env) node (Some v)
        ≡ then_done env
        (bind_targets (locals file node.routine) targets.tuple targets.names
        (header_of file node k env) (Known w))
        (started file node.routine node.depth (start.LoopBody k) (Again k (suc turns) over ∷ rest))

  -- a Pick: the nodes of a side
  pub record PickRules (test : Arg) (first second : Side) (env : List Arg) (v : Value) : Type 0 where
    pub where_true : is_true v ≡ true
        → work_refined file limits (Pick test first second env) node (Some v)
        ≡ (side_unfolds file first (context_of node env) >>> (λ a. pure (only_value a)))
    pub where_false : is_true v ≡ false
        → work_refined file limits (Pick test first second env) node (Some v)
        ≡ (side_unfolds file second (context_of node env) >>> (λ a. pure (only_value a)))

  -- an Enter: a Stop by DepthLimit, or the body with new slots, one deeper
  pub record EnterRules (func : ℕ) (args : List Arg) (f : Func) : Type 0 where
    pub limit : limits.depth ≤ node.depth
        → work_refined file limits (Enter func args) node None
        ≡ stop (context_of node []) (Limit Depth node.line)
    pub entered : suc node.depth ≤ limits.depth
        → work_refined file limits (Enter func args) node None
        ≡ (started file func (suc node.depth) start.Body []
        (with_parameters (locals file func) (unbound_slots (locals file func))
        (map (λ p. p.1) f.params) args) >>> (λ d. pure (only_value d.value)))

-- the rules of each composite whose fields name what they ask for
pub record RuleLaws : Type 0 where
  pub cond : (file : File) (limits : Limits) (node : Node) (test : Arg) (k arm : ℕ)
      (rest : List Frame) (env : List Arg) (v : Value) (arms : List Arm) (last : Option Block) (a : Arm)
      → compound_at file node.routine k ≡ Choice arms last → slice_get arms arm ≡ Some a
      → CondRules file limits node test k arm rest env v arms last a
  pub while : (file : File) (limits : Limits) (node : Node) (test : Arg) (k turns : ℕ)
      (rest : List Frame) (env : List Arg) (v : Value) (e : Expr) (body : Block)
      → compound_at file node.routine k ≡ WhileLoop e body
      → WhileRules file limits node test k turns rest env v
  pub for : (file : File) (limits : Limits) (node : Node) (over : Arg) (k turns : ℕ)
      (rest : List Frame) (env : List Arg) (v : Value) (targets : Targets) (e : Expr) (body : Block)
      → compound_at file node.routine k ≡ ForLoop targets e body
      → ForRules file limits node over k turns rest env v targets e
  pub pick : (file : File) (limits : Limits) (node : Node) (test : Arg) (first second : Side)
      (env : List Arg) (v : Value) → PickRules file limits node test first second env v
  pub enter : (file : File) (limits : Limits) (node : Node) (func : ℕ) (args : List Arg) (f : Func)
      → function file func ≡ Some f → length args ≡ length f.params
      → EnterRules file limits node func args f
