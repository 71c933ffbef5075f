-- A piece that takes the place of a composite whose rest is nested has 3 nodes at most for each item of the file, and 3 more, and its composites have nested rests in turn.
use Rattle.std.proofs.Common.{◌≡◌, ◌≤◌, ℕ, zero, suc, ◌+◌, ◌-◌, ◌*◌, nat_eq, List, [], ◌∷◌, length, map, Bool, true, false, if◌then◌else◌, Option, Some, None, refl, arith}
use Rattle.std.specs.List.{slice_get}
use Rattle.pyd_value.specs.declared.value.Value.{Value}
use Rattle.pyd_value.specs.declared.value.Value.TheVariants as value
use Rattle.pyd_value.specs.declared.fault.Fault.{Fault}
use Rattle.pyd_value.specs.declared.fault.Fault.TheVariants.{Raised, Limit}
use Rattle.pyd_value.specs.declared.fault.Limit.TheVariants.{Turn, Depth}
use Rattle.pyd_value.specs.declared.fault.Kind.TheVariants.{NameError, TypeError, ValueError}
use Rattle.pyd_value.specs.Truth.{is_true}
use Rattle.pyd_tree.specs.declared.expression.Expr.{Expr}
use Rattle.pyd_tree.specs.declared.statement.Arm.{Arm, out-Arm}
use Rattle.pyd_tree.specs.declared.statement.Targets.{Targets}
use Rattle.pyd_tree.specs.declared.file.File.{File}
use Rattle.pyd_tree.specs.declared.file.Func.{Func}
use Rattle.pyd_names.specs.Binding.{locals, function}
use Rattle.pyd_names.specs.WellFormed.{expression_parts}
use Rattle.pyd_meaning.specs.declared.limits.Limits.{Limits}
use Rattle.pyd_meaning.specs.Loops.{Items, items_over}
use Rattle.pyd_meaning.specs.Statement.{calls_range}
use Rattle.pyd_meaning.specs.Module.{setting_at}
use Rattle.pyd_ir.specs.declared.arg.Arg.{Arg}
use Rattle.pyd_ir.specs.declared.arg.Arg.TheVariants.{Known, Unbound}
use Rattle.pyd_ir.specs.declared.code.OpCode.TheVariants as code
use Rattle.pyd_ir.specs.declared.node.Node.{Node}
use Rattle.pyd_ir.specs.declared.work.Frame.{Frame}
use Rattle.pyd_ir.specs.declared.work.Frame.TheVariants.{Again}
use Rattle.pyd_ir.specs.declared.work.Side.{Side}
use Rattle.pyd_ir.specs.declared.work.Side.TheVariants as side
use Rattle.pyd_ir.specs.declared.work.Work.{Work}
use Rattle.pyd_ir.specs.declared.work.Work.TheVariants.{Op, Read, Call, Stop, Print, Run, Cond, While, For, Pick, Enter}
use Rattle.pyd_scope.specs.Numbering.{Point, body, table, expression_table}
use Rattle.pyd_scope.specs.Passages.{passage_at}
use Rattle.pyd_translate.specs.declared.at.Start.{Start}
use Rattle.pyd_translate.specs.declared.at.Start.TheVariants as start
use Rattle.pyd_translate.specs.Compounds.{Compound, Choice, WhileLoop, ForLoop, Simple, compound_at, line_at}
use Rattle.pyd_translate.specs.Making.{Making, Context, pure, emit, stop, ◌>>>◌}
use Rattle.pyd_translate.specs.Slots.{set_slot, unbound_slots}
use Rattle.pyd_translate.specs.Sides.{side_unfolds}
use Rattle.pyd_translate.specs.Statements.{Done, context, header, ported, bind_targets, set_members}
use Rattle.pyd_translate.specs.Starts.{passage}
use Rattle.pyd_translate.specs.Rests.{block_unfolds}
use Rattle.pyd_translate.specs.Counts.{all_items, file_items, numbered_items, side_items}
use Rattle.pyd_translate.specs.Nested.{number_behind, IsWithin, end_of, IsNested, HasNested, AreNested, rest_spare}
use Rattle.pyd_translate.proofs.Lookup.{start_placed}
use Rattle.pyd_translate.proofs.FewNodes.{Few, then_few, done_few, few_more, pure_few, emit_few, stop_few}
use Rattle.pyd_translate.proofs.FewInExpressions.{expression_few}
use Rattle.pyd_translate.proofs.FewInStatements.{ported_few}
use Rattle.pyd_translate.proofs.FewInSides.{side_few}
use Rattle.pyd_translate.proofs.PartItems.{numbered_few}
use Rattle.pyd_translate.proofs.FileItems.{body_kept}
use Rattle.pyd_translate.proofs.NestedNodes.{Nests, then_nests, done_nests, pure_nests, emit_nests, stop_nests}
use Rattle.pyd_translate.proofs.NestedExpressions.{expression_nests, side_nested}
use Rattle.pyd_translate.proofs.NestedStatements.{ported_nests}
use Rattle.pyd_translate.proofs.NestedRests.{block_nested}
use Rattle.pyd_translate.proofs.NestedCount.{routine_few as all_few}
use Rattle.pyd_translate.proofs.SuitesWithin.{start_within}
use Rattle.pyd_refine.specs.Composites.{arms_of, arm_point, with_parameters, only_value, if_control, started, arm_tested, arm_refined, turn_refined, while_refined, item_turn, item_refined, items_refined, loop_refined, side_refined, body_refined, function_refined, context_of, work_refined, refined_piece}
use Rattle.pyd_runs.proofs.Suites.{entry_later, IsLoop, loop_later, within_from, within_all, entry_parts}

-- targets that are bound make one node at most
targets_few : (slots : List (List ℕ)) (tuple : Bool) (names : List (List ℕ)) (at : Context)
    (a : Arg) → Few 1 0 (bind_targets slots tuple names at a)
targets_few slots false [] at a = stop_few (List Arg) at (Raised ValueError at.line)
targets_few slots false (name ∷ []) at a =
    pure_few 1 0 (set_slot slots at.env name a) (omega arith)
targets_few slots false (name ∷ other ∷ names) at a =
    stop_few (List Arg) at (Raised ValueError at.line)
targets_few slots true names at a =
    then_few 1 0 0 0 1 0 (emit at (Op (code.Unpack (length names)) (a ∷ [])))
    (λ id. pure (set_members slots at.env id 0 names))
    (emit_few at (Op (code.Unpack (length names)) (a ∷ [])))
    (λ id. pure_few 0 0 (set_members slots at.env id 0 names) (omega arith))
    (omega arith) (omega arith)

-- and no composite
targets_nest : (file : File) (slots : List (List ℕ)) (tuple : Bool) (names : List (List ℕ))
    (at : Context) (a : Arg) → Nests file (bind_targets slots tuple names at a)
targets_nest file slots false [] at a =
    stop_nests file (List Arg) at (Raised ValueError at.line)
targets_nest file slots false (name ∷ []) at a =
    pure_nests file (set_slot slots at.env name a)
targets_nest file slots false (name ∷ other ∷ names) at a =
    stop_nests file (List Arg) at (Raised ValueError at.line)
targets_nest file slots true names at a =
    then_nests file (emit at (Op (code.Unpack (length names)) (a ∷ [])))
    (λ id. pure (set_members slots at.env id 0 names))
    (emit_nests file at (Op (code.Unpack (length names)) (a ∷ [])) tt)
    (λ id. pure_nests file (set_members slots at.env id 0 names))

module _ (file : File) where
  -- what makes nodes makes so many at most, whose composites have nested rests
  record Fits {A : Type 0} (n : ℕ) (making : Making A) : Type 0 where
    few : Few n 0 making
    nests : Nests file making

  -- as many as a piece has at most
  abbrev most : ℕ
  most = 3 * suc (file_items file)

  fits_most : {A : Type 0} (n : ℕ) (u : Making A) → n ≤ most → Fits n u → Fits most u
  fits_most n u le f = record {
    few = few_more n 0 most 0 u f.few (omega (arith, le));
    nests = f.nests;
  }

  pure_fits : {A : Type 0} (a : A) → Fits most (pure a)
  pure_fits a = record { few = pure_few most 0 a (omega arith); nests = pure_nests file a }

  stop_fits : (A : Type 0) (at : Context) (fault : Fault) → Fits most (stop {A = A} at fault)
  stop_fits A at fault = record {
    few = few_more 1 0 most 0 (stop {A = A} at fault) (stop_few A at fault) (omega arith);
    nests = stop_nests file A at fault;
  }

  -- what came of nodes, as a value alone
  valued_fits : {A B : Type 0} (u : Making A) (f : A → B) → Fits most u
      → Fits most (u >>> (λ a. pure (f a)))
  valued_fits u f is = record {
    few = then_few most 0 0 0 most 0 u (λ a. pure (f a)) is.few
        (λ a. pure_few 0 0 (f a) (omega arith)) (omega arith) (omega arith);
    nests = then_nests file u (λ a. pure (f a)) is.nests (λ a. pure_nests file (f a));
  }

  -- the statements at a start that stand between two numbers, and a rest that is nested round these
  started_fits : (routine depth : ℕ) (s : Start) (rest : List Frame) (first last : ℕ)
      → first ≤ last → IsWithin first last (passage file routine s)
      → IsNested file routine first last rest → (env : List Arg)
      → Fits (3 * file_items file) (started file routine depth s rest env)
  started_fits routine depth s rest first last le within nested env = record {
    few = λ ids.
        (let all : length (block_unfolds file routine depth (passage file routine s) rest env ids).nodes
        + 3 * rest_spare file routine rest ≤ 3 * all_items (body file routine) =
        all_few file routine depth first last (passage file routine s) rest ids env
        (start_placed file routine s) le within nested in
        let kept = body_kept file routine in
        omega (arith, all, kept));
    nests = λ ids.
        block_nested file routine depth first last (passage file routine s) rest ids env
        (start_placed file routine s) le within nested;
  }

  -- all statements of a routine
  routine_fits : (routine depth : ℕ) (env : List Arg)
      → Fits (3 * file_items file) (started file routine depth start.Body [] env)
  routine_fits routine depth env =
      started_fits routine depth start.Body [] 0
      (number_behind (passage file routine start.Body)) (omega arith)
      (within_all (body file routine)) tt env

  module _ (routine depth k : ℕ) (rest : List Frame)
      (nested : IsNested file routine k (end_of file routine k) rest) where
    -- a suite of statement k, and then the rest
    suite_fits : (s : Start) → IsWithin (suc k) (end_of file routine k) (passage file routine s)
        → (env : List Arg) → Fits most (started file routine depth s rest env)
    suite_fits s within env =
        fits_most (3 * file_items file) (started file routine depth s rest env) (omega arith)
        (started_fits routine depth s rest k (end_of file routine k)
        (entry_later (slice_get (table file routine) k) k)
        (within_from (passage file routine s).stmts (passage file routine s).point.statement k
        (end_of file routine k) within) nested env)

    -- the rest alone
    rest_fits : (env : List Arg) → Fits most (started file routine depth start.Rest rest env)
    rest_fits env = suite_fits start.Rest tt env

    otherwise_fits : (env : List Arg)
        → Fits most (started file routine depth (start.Otherwise k) rest env)
    otherwise_fits env =
        suite_fits (start.Otherwise k) (start_within file routine (start.Otherwise k)) env

    -- the test of an arm and its Cond
    arm_fits : (o : Option Arm) (arm : ℕ) (p : Point) (env : List Arg)
        → ((a : Arm) → o ≡ Some a → expression_parts (out-Arm a).test ≤ file_items file)
        → Fits most (arm_tested file routine depth k rest o arm p env)
    arm_fits None arm p env small = otherwise_fits env
    arm_fits (Some a) arm p env small =
        let at = context routine depth (out-Arm a).line env in
        let le = small a refl in record {
          few =
              done_few (3 * expression_parts (out-Arm a).test) 1 1 0 most 0 env
              (header file (out-Arm a).test p at)
              (λ t. emit at (Cond t k arm rest env) >>> ported (locals file routine))
              (expression_few file (out-Arm a).test p.expression at)
              (λ t. ported_few (locals file routine) at (Cond t k arm rest env))
              (omega (arith, le)) (omega (arith, le));
          nests =
              done_nests file env (header file (out-Arm a).test p at)
              (λ t. emit at (Cond t k arm rest env) >>> ported (locals file routine))
              (expression_nests file (out-Arm a).test p.expression at)
              (λ t. ported_nests file (locals file routine) at (Cond t k arm rest env) nested);
        }

    -- a Cond
    cond_fits : (arms : List Arm) (p : Point) (arm : ℕ) (o : Option Arm) (b : Bool)
        (env : List Arg)
        → ((j : ℕ) (a : Arm) → slice_get arms j ≡ Some a
        → expression_parts (out-Arm a).test ≤ file_items file)
        → Fits most (arm_refined file routine depth k rest arms p arm o b env)
    cond_fits arms p arm None b env small = otherwise_fits env
    cond_fits arms p arm (Some a) true env small =
        suite_fits (start.Arm k arm) (start_within file routine (start.Arm k arm)) env
    cond_fits arms p arm (Some a) false env small =
        arm_fits (slice_get arms (suc arm)) (suc arm) (arm_point arms (suc arm) p) env
        (λ next is. small (suc arm) next is)

    module _ (later : suc k ≤ end_of file routine k) where
      -- the body of a loop, and then its next turn
      body_fits : (turns : ℕ) (over : Arg) (env : List Arg)
          → Fits (3 * file_items file)
          (started file routine depth (start.LoopBody k) (Again k (suc turns) over ∷ rest) env)
      body_fits turns over env =
          started_fits routine depth (start.LoopBody k) (Again k (suc turns) over ∷ rest) (suc k)
          (end_of file routine k) later (start_within file routine (start.LoopBody k))
          (omega arith, (omega arith, nested)) env

      turn_fits : (left line turns : ℕ) (over : Arg) (env : List Arg)
          → Fits most (turn_refined file routine depth k rest left line turns over env)
      turn_fits zero line turns over env =
          stop_fits Done (context routine depth line env) (Limit Turn line)
      turn_fits (suc left) line turns over env =
          fits_most (3 * file_items file)
          (started file routine depth (start.LoopBody k) (Again k (suc turns) over ∷ rest) env)
          (omega arith) (body_fits turns over env)

      -- a While
      while_fits : (b : Bool) (left line turns : ℕ) (env : List Arg)
          → Fits most (while_refined file routine depth k rest b left line turns env)
      while_fits false left line turns env = rest_fits env
      while_fits true left line turns env = turn_fits left line turns (Known value.None) env

      -- a turn with an item
      item_fits : (left : ℕ) (targets : Targets) (v : Value) (line turns : ℕ) (over : Arg)
          (env : List Arg)
          → Fits most (item_turn file routine depth k rest left targets v line turns over env)
      item_fits zero targets v line turns over env = turn_fits zero line turns over env
      item_fits (suc left) targets v line turns over env =
          let at = context routine depth line env in
          let slots = locals file routine in record {
            few =
                done_few 1 0 (3 * file_items file) 0 most 0 env
                (bind_targets slots targets.tuple targets.names at (Known v))
                (turn_refined file routine depth k rest (suc left) line turns over)
                (targets_few slots targets.tuple targets.names at (Known v))
                (λ after. (body_fits turns over after).few) (omega arith) (omega arith);
            nests =
                done_nests file env (bind_targets slots targets.tuple targets.names at (Known v))
                (turn_refined file routine depth k rest (suc left) line turns over)
                (targets_nest file slots targets.tuple targets.names at (Known v))
                (λ after. (body_fits turns over after).nests);
          }

      -- with an item or without
      maybe_fits : (left : ℕ) (targets : Targets) (o : Option Value) (line turns : ℕ) (over : Arg)
          (env : List Arg)
          → Fits most (item_refined file routine depth k rest left targets o line turns over env)
      maybe_fits left targets None line turns over env = rest_fits env
      maybe_fits left targets (Some v) line turns over env =
          item_fits left targets v line turns over env

      -- a For
      items_fit : (left : ℕ) (targets : Targets) (o : Option Items) (line turns : ℕ) (over : Arg)
          (env : List Arg)
          → Fits most (items_refined file routine depth k rest left targets o line turns over env)
      items_fit left targets None line turns over env =
          stop_fits Done (context routine depth line env) (Raised TypeError line)
      items_fit left targets (Some items) line turns over env =
          maybe_fits left targets (items turns) line turns over env

    -- a loop's node
    loop_fits : (limits : Limits) (c : Compound) (line turns : ℕ) (over : Arg) (v : Value)
        (env : List Arg) → (IsLoop c → suc k ≤ end_of file routine k)
        → Fits most (loop_refined file limits routine depth k rest c line turns over v env)
    loop_fits limits (WhileLoop test body) line turns over v env later =
        while_fits (later tt) (is_true v) (limits.turns - turns) line turns env
    loop_fits limits (ForLoop targets e body) line turns over v env later =
        items_fit (later tt) (limits.turns - turns) targets
        (items_over (calls_range (setting_at file limits routine depth) e) v) line turns over env
    loop_fits limits (Choice arms otherwise) line turns over v env later = rest_fits env
    loop_fits limits Simple line turns over v env later = rest_fits env

  -- an expression that a number may name
  numbered_small : (routine k : ℕ) (o : Option Expr)
      → slice_get (expression_table file routine) k ≡ o
      → numbered_items o ≤ suc (file_items file)
  numbered_small routine k None is = omega arith
  numbered_small routine k (Some e) is =
      let few = numbered_few file routine k e is in
      let kept = body_kept file routine in
      omega (arith, few, kept)

  side_small : (routine : ℕ) (s : Side) → side_items file routine s ≤ suc (file_items file)
  side_small routine (side.Arg a) = omega arith
  side_small routine (side.Expr k) =
      numbered_small routine k (slice_get (expression_table file routine) k) refl
  side_small routine (side.Tail k m a) =
      numbered_small routine k (slice_get (expression_table file routine) k) refl

  -- a side
  side_fits : (s : Side) (at : Context) → Fits most (side_unfolds file s at)
  side_fits s at = record {
    few = λ ids.
        (let few = side_few file at.routine at.depth at.line s ids at.env in
        let small = side_small at.routine s in
        omega (arith, few, small));
    nests = λ ids. side_nested file at.routine at.depth at.line s ids at.env;
  }

  -- the one by the truth of a test
  chosen_fits : (b : Bool) (first second : Side) (at : Context)
      → Fits most (side_unfolds file (if b then first else second) at)
  chosen_fits true first second at = side_fits first at
  chosen_fits false first second at = side_fits second at

  -- a Pick
  pick_fits : (b : Bool) (first second : Side) (at : Context)
      → Fits most (side_refined file b first second at)
  pick_fits b first second at =
      valued_fits (side_unfolds file (if b then first else second) at) only_value
      (chosen_fits b first second at)

  -- the body of a function
  entered_fits : (left func : ℕ) (f : Func) (args : List Arg) (at : Context)
      → Fits most (body_refined file left func f args at)
  entered_fits zero func f args at = stop_fits Done at (Limit Depth at.line)
  entered_fits (suc left) func f args at =
      let slots = locals file func in
      let env = with_parameters slots (unbound_slots slots) (map (λ x. x.1) f.params) args in
      valued_fits (started file func (suc at.depth) start.Body [] env) (λ d. only_value d.value)
      (fits_most (3 * file_items file) (started file func (suc at.depth) start.Body [] env)
      (omega arith) (routine_fits func (suc at.depth) env))

  -- an Enter
  counted_fits : (b : Bool) (left func : ℕ) (f : Func) (args : List Arg) (at : Context)
      → Fits most (if b then body_refined file left func f args at else stop at (Raised TypeError at.line))
  counted_fits true left func f args at = entered_fits left func f args at
  counted_fits false left func f args at = stop_fits Done at (Raised TypeError at.line)

  enter_fits : (limits : Limits) (o : Option Func) (func : ℕ) (args : List Arg) (at : Context)
      → Fits most (function_refined file limits o func args at)
  enter_fits limits None func args at = stop_fits Done at (Raised NameError at.line)
  enter_fits limits (Some f) func args at =
      counted_fits (nat_eq (length args) (length f.params)) (limits.depth - at.depth) func f args at

  -- a composite that goes on by the value of its control
  control_fits : (o : Option Value) (at : Context) (next : Value → Making Done)
      → ((v : Value) → Fits most (next v)) → Fits most (if_control o at next)
  control_fits None at next is = stop_fits Done at (Raised NameError at.line)
  control_fits (Some v) at next is = is v

  -- each composite, by its work
  work_fits : (limits : Limits) (w : Work) (node : Node) (control : Option Value)
      → HasNested file node.routine w → Fits most (work_refined file limits w node control)
  work_fits limits (Op op args) node control nested = pure_fits (only_value Unbound)
  work_fits limits (Read arg kind) node control nested = pure_fits (only_value Unbound)
  work_fits limits (Call func args) node control nested = pure_fits (only_value Unbound)
  work_fits limits (Stop fault) node control nested = pure_fits (only_value Unbound)
  work_fits limits (Print args) node control nested = pure_fits (only_value Unbound)
  work_fits limits (Run func args) node control nested = pure_fits (only_value Unbound)
  work_fits limits (Cond test k arm rest env) node control nested =
      let arms = arms_of (compound_at file node.routine k) in
      control_fits control (context_of node env) _ (λ v.
      cond_fits node.routine node.depth k rest nested arms (passage_at file node.routine k).point
      arm (slice_get arms arm) (is_true v) env
      (λ j a is.
      (let few = entry_parts file node.routine k (slice_get (table file node.routine) k) j a refl is in
      let kept = body_kept file node.routine in
      omega (arith, few, kept))))
  work_fits limits (While test k turns rest env) node control nested =
      control_fits control (context_of node env) _ (λ v.
      loop_fits node.routine node.depth k rest nested limits (compound_at file node.routine k)
      (line_at file node.routine k) turns test v env
      (λ is. loop_later (slice_get (table file node.routine) k) k is))
  work_fits limits (For over k turns rest env) node control nested =
      control_fits control (context_of node env) _ (λ v.
      loop_fits node.routine node.depth k rest nested limits (compound_at file node.routine k)
      (line_at file node.routine k) turns over v env
      (λ is. loop_later (slice_get (table file node.routine) k) k is))
  work_fits limits (Pick test first second env) node control nested =
      control_fits control (context_of node env) _ (λ v.
      pick_fits (is_true v) first second (context_of node env))
  work_fits limits (Enter func args) node control nested =
      enter_fits limits (function file func) func args (context_of node [])

-- so have the statements of a routine
pub routine_few : (file : File) (routine depth : ℕ) (env : List Arg) (ids : ℕ)
    → length (started file routine depth start.Body [] env ids).nodes ≤ 3 * file_items file
routine_few file routine depth env ids =
    let few = (routine_fits file routine depth env).few ids in omega (arith, few)

pub routine_nests : (file : File) (routine depth : ℕ) (env : List Arg) (ids : ℕ)
    → AreNested file (started file routine depth start.Body [] env ids).nodes
routine_nests file routine depth env ids = (routine_fits file routine depth env).nests ids

-- a piece has few nodes
pub piece_few : (file : File) (limits : Limits) (node : Node) (control : Option Value) (ids : ℕ)
    → HasNested file node.routine node.work
    → length (refined_piece file limits node control ids).nodes ≤ 3 * suc (file_items file)
piece_few file limits node control ids nested =
    let few = (work_fits file limits node.work node control nested).few ids in
    omega (arith, few)

-- and its composites have nested rests
pub piece_nests : (file : File) (limits : Limits) (node : Node) (control : Option Value)
    (ids : ℕ) → HasNested file node.routine node.work
    → AreNested file (refined_piece file limits node control ids).nodes
piece_nests file limits node control ids nested =
    (work_fits file limits node.work node control nested).nests ids
