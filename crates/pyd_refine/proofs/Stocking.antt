-- The nodes of the piece of a composite have what they need, where the composite has.
use Rattle.std.proofs.Common.{ℕ, zero, suc, ◌-◌, List, [], ◌∷◌, ◌++◌, append-nil, length, map, nat_eq, Bool, true, false, if◌then◌else◌, Option, Some, None, refl, sym, subst, arith}
use Rattle.std.specs.Prelude.{IsTrue}
use Rattle.std.specs.List.{slice_get}
use Rattle.pyd_value.specs.declared.value.Value.{Value}
use Rattle.pyd_value.specs.declared.value.Value.TheVariants as value
use Rattle.pyd_value.specs.declared.fault.Fault.{Fault}
use Rattle.pyd_value.specs.declared.fault.Fault.TheVariants.{Raised, Limit}
use Rattle.pyd_value.specs.declared.fault.Limit.TheVariants.{Turn, Depth}
use Rattle.pyd_value.specs.declared.fault.Kind.TheVariants.{NameError, TypeError}
use Rattle.pyd_value.specs.Truth.{is_true}
use Rattle.pyd_tree.specs.declared.statement.Arm.{Arm, out-Arm}
use Rattle.pyd_tree.specs.declared.statement.Targets.{Targets}
use Rattle.pyd_tree.specs.declared.file.File.{File}
use Rattle.pyd_tree.specs.declared.file.Func.{Func}
use Rattle.pyd_names.specs.Binding.{locals, function}
use Rattle.pyd_meaning.specs.declared.limits.Limits.{Limits}
use Rattle.pyd_meaning.specs.Loops.{Items, items_over}
use Rattle.pyd_meaning.specs.Statement.{calls_range}
use Rattle.pyd_meaning.specs.Module.{setting_at}
use Rattle.pyd_ir.specs.declared.arg.Arg.{Arg}
use Rattle.pyd_ir.specs.declared.arg.Arg.TheVariants.{Known, Unbound}
use Rattle.pyd_ir.specs.declared.node.Node.{Node}
use Rattle.pyd_ir.specs.declared.work.Frame.{Frame}
use Rattle.pyd_ir.specs.declared.work.Frame.TheVariants.{Again}
use Rattle.pyd_ir.specs.declared.work.Side.{Side}
use Rattle.pyd_ir.specs.declared.work.Work.{Work}
use Rattle.pyd_ir.specs.declared.work.Work.TheVariants.{Op, Read, Call, Stop, Print, Run, Cond, While, For, Pick, Enter}
use Rattle.pyd_ir.specs.Arguments.{arguments, rest_arguments, side_arguments}
use Rattle.pyd_ir.specs.Inputs.{Given, have_values}
use Rattle.pyd_scope.specs.Numbering.{Point}
use Rattle.pyd_scope.specs.Passages.{passage_at}
use Rattle.pyd_translate.specs.declared.at.Start.{Start}
use Rattle.pyd_translate.specs.declared.at.Start.TheVariants as start
use Rattle.pyd_translate.specs.Compounds.{Compound, Choice, WhileLoop, ForLoop, Simple, compound_at, line_at}
use Rattle.pyd_translate.specs.Making.{Making, Context, pure, carry, emit, stop, stop_by, ◌>>>◌}
use Rattle.pyd_translate.specs.Slots.{set_slot, unbound_slots}
use Rattle.pyd_translate.specs.Sides.{side_unfolds}
use Rattle.pyd_translate.specs.Starts.{passage}
use Rattle.pyd_translate.specs.Statements.{Done, context, header, ported, bind_targets}
use Rattle.pyd_translate.specs.Walk.{give, work_ports}
use Rattle.pyd_translate.specs.Matching.{AreGiven, HaveValues}
use Rattle.pyd_translate.specs.Supplied.{AreFilled, HasNeeds, AreSupplied}
use Rattle.pyd_translate.proofs.Keeping.{all_given-kept}
use Rattle.pyd_translate.proofs.Slots.{set_count, set_given, slots_unbound}
use Rattle.pyd_translate.proofs.Supplying.{HasSome, some-later, have-later, some-true, have-true, HasSlots as AreStaged, AreStocked, where-then, done-stocked, pure-stocked, stop-supplied}
use Rattle.pyd_translate.proofs.SuppliedExpressions.{staged-later}
use Rattle.pyd_translate.proofs.SuppliedSides.{side-supplied}
use Rattle.pyd_translate.proofs.SuppliedBindings.{targets-bound, header-supplied}
use Rattle.pyd_translate.proofs.SuppliedStatements.{Stocks, ported-stocked, composite-given}
use Rattle.pyd_translate.proofs.SuppliedRests.{block-stocked}
use Rattle.pyd_refine.specs.Composites.{arms_of, arm_point, with_parameters, only_value, if_control, started, arm_tested, arm_refined, turn_refined, while_refined, item_turn, item_refined, items_refined, loop_refined, body_refined, function_refined, context_of, work_refined}
use Rattle.pyd_translate.specs.Naming.{Numbers}
use Rattle.pyd_refine.specs.Ordering.{and_one, IsOrdered}
use Rattle.pyd_refine.proofs.Needs.{value-had, values-had, given-left, given-right}

-- whatever came of nodes
abbrev Whatever : ℕ → Given → Done → Type 0
Whatever next given done = Unit {0}

module _ (file : File) (limits : Limits) where
  -- nodes in order that have what they need by their own numbers have it by the next number
  pub stocked-supplied : (known : Numbers) (next : ℕ) (ns : List Node) (given : Given) → IsOrdered known next ns
      → AreStocked file limits ns given → AreSupplied file limits next ns given
  unfolding AreStocked AreSupplied
  stocked-supplied known next [] given o stocked = tt
  stocked-supplied known next (n ∷ ns) given o stocked =
      let lt = o.0 in (
        all_given-kept n.id next given given (arguments n.work) (omega arith) (λ node port low. refl) stocked.0,
        stocked.1,
        where-then (work_ports file limits n.work n given).result _ _ stocked.2
            (λ ports is rest. stocked-supplied (and_one known n.id) next ns (give n.id ports given) o.3 rest),
      )

  -- what is made of what came of nodes needs nothing more
  carried-stocked : {A B : Type 0} (given : Given) (nodes : List Node) (got : Option A) (next : ℕ) (f : A → B)
      → AreStocked file limits nodes given
      → AreStocked file limits (carry nodes got next (λ a. pure (f a))).nodes given
  unfolding pure
  carried-stocked given nodes (Some a) next f stocked =
      subst (λ ns. AreStocked file limits ns given) (sym (append-nil nodes)) stocked
  carried-stocked given nodes None next f stocked = stocked

  -- the same of a piece
  mapped-stocked : {A B : Type 0} (ids : ℕ) (given : Given) (u : Making A) (f : A → B) → Stocks file limits ids given u
      → Stocks file limits ids given (u >>> (λ a. pure (f a)))
  unfolding ◌>>>◌
  mapped-stocked ids given u f stocked = carried-stocked given (u ids).nodes (u ids).got (u ids).next f stocked

  -- a Stop
  stop-stocked : (ids : ℕ) (given : Given) (at : Context) (fault : Fault)
      → Stocks file limits {A = Done} ids given (stop at fault)
  stop-stocked ids given at fault = (stop-supplied file limits Whatever ids given at fault).nodes

  module _ (routine depth : ℕ) (rest : List Frame) where
    -- the statements at a start, and then the rest
    started-stocked : (s : Start) (ids : ℕ) (given : Given) (env : List Arg) → HaveValues ids given (rest_arguments rest)
        → AreStaged file limits routine ids given env
        → Stocks file limits ids given (started file routine depth s rest env)
    started-stocked s ids given env have has =
        block-stocked file limits routine depth (passage file routine s) rest ids given env have has

  module _ (routine depth k : ℕ) (rest : List Frame) (ids : ℕ) (given : Given) (env : List Arg)
      (have : HaveValues ids given (rest_arguments rest)) (has : AreStaged file limits routine ids given env) where
    -- the test of an arm and its Cond
    tested-stocked : (o : Option Arm) (arm : ℕ) (p : Point)
        → Stocks file limits ids given (arm_tested file routine depth k rest o arm p env)
    tested-stocked None arm p = started-stocked routine depth rest (start.Otherwise k) ids given env have has
    tested-stocked (Some a) arm p =
        let at = context routine depth (out-Arm a).line env in
        done-stocked file limits HasSome ids given env (header file (out-Arm a).test p at)
        (λ t. emit at (Cond t k arm rest env) >>> ported (locals file routine))
        (header-supplied file limits (out-Arm a).test p at ids given has)
        (λ next mid t later v.
        let now = have-later ids next given mid (rest_arguments rest) later have in
        let slots = staged-later file limits at ids next given mid later has in
        ported-stocked file limits next mid at (Cond t k arm rest env) (locals file routine) (
          composite-given file limits next mid t rest env v now slots.1,
          (some-true next mid t v, have-true next mid (rest_arguments rest) now, slots.0),
        ))

    -- a Cond
    cond-stocked : (arms : List Arm) (p : Point) (arm : ℕ) (o : Option Arm) (b : Bool)
        → Stocks file limits ids given (arm_refined file routine depth k rest arms p arm o b env)
    cond-stocked arms p arm None b = started-stocked routine depth rest (start.Otherwise k) ids given env have has
    cond-stocked arms p arm (Some a) true = started-stocked routine depth rest (start.Arm k arm) ids given env have has
    cond-stocked arms p arm (Some a) false = tested-stocked (slice_get arms (suc arm)) (suc arm) (arm_point arms (suc arm) p)

    -- a turn
    turn-stocked : (left line turns : ℕ) (over : Arg) → HasSome ids given over
        → Stocks file limits ids given (turn_refined file routine depth k rest left line turns over env)
    turn-stocked zero line turns over v = stop-stocked ids given (context routine depth line env) (Limit Turn line)
    turn-stocked (suc left) line turns over v =
        started-stocked routine depth (Again k (suc turns) over ∷ rest) (start.LoopBody k) ids given env (v, have) has

    -- a While
    while-stocked : (b : Bool) (left line turns : ℕ)
        → Stocks file limits ids given (while_refined file routine depth k rest b left line turns env)
    while-stocked false left line turns = started-stocked routine depth rest start.Rest ids given env have has
    while-stocked true left line turns = turn-stocked left line turns (Known value.None) (value.None, (refl, tt))

  module _ (routine depth k : ℕ) (rest : List Frame) (ids : ℕ) (given : Given) (env : List Arg)
      (have : HaveValues ids given (rest_arguments rest)) (has : AreStaged file limits routine ids given env) where
    -- a turn with an item
    item-stocked : (left : ℕ) (targets : Targets) (w : Value) (line turns : ℕ) (over : Arg) → HasSome ids given over
        → Stocks file limits ids given (item_turn file routine depth k rest left targets w line turns over env)
    item-stocked zero targets w line turns over v = turn-stocked routine depth k rest ids given env have has zero line turns over v
    item-stocked (suc left) targets w line turns over v =
        let at = context routine depth line env in
        done-stocked file limits (AreStaged file limits routine) ids given env
        (bind_targets (locals file routine) targets.tuple targets.names at (Known w))
        (turn_refined file routine depth k rest (suc left) line turns over)
        (targets-bound file limits targets.tuple targets.names at (Known w) ids given has (w, (refl, tt)))
        (λ next mid slots later set. turn-stocked routine depth k rest next mid slots
        (have-later ids next given mid (rest_arguments rest) later have) set (suc left) line turns over
        (some-later ids next given mid over later v))

    -- with an item or without
    maybe-stocked : (left : ℕ) (targets : Targets) (o : Option Value) (line turns : ℕ) (over : Arg) → HasSome ids given over
        → Stocks file limits ids given (item_refined file routine depth k rest left targets o line turns over env)
    maybe-stocked left targets None line turns over v = started-stocked routine depth rest start.Rest ids given env have has
    maybe-stocked left targets (Some w) line turns over v = item-stocked left targets w line turns over v

    -- a For
    items-stocked : (left : ℕ) (targets : Targets) (o : Option Items) (line turns : ℕ) (over : Arg) → HasSome ids given over
        → Stocks file limits ids given (items_refined file routine depth k rest left targets o line turns over env)
    items-stocked left targets None line turns over v =
        stop-stocked ids given (context routine depth line env) (Raised TypeError line)
    items-stocked left targets (Some items) line turns over v = maybe-stocked left targets (items turns) line turns over v

    -- a loop's node
    loop-stocked : (c : Compound) (line turns : ℕ) (over : Arg) (v : Value) → HasSome ids given over
        → Stocks file limits ids given (loop_refined file limits routine depth k rest c line turns over v env)
    loop-stocked (WhileLoop test body) line turns over v some =
        while-stocked routine depth k rest ids given env have has (is_true v) (limits.turns - turns) line turns
    loop-stocked (ForLoop targets e body) line turns over v some =
        items-stocked (limits.turns - turns) targets (items_over (calls_range (setting_at file limits routine depth) e) v)
        line turns over some
    loop-stocked (Choice arms otherwise) line turns over v some =
        started-stocked routine depth rest start.Rest ids given env have has
    loop-stocked Simple line turns over v some = started-stocked routine depth rest start.Rest ids given env have has

  module _ (ids : ℕ) (given : Given) where
    -- a side, by the truth of a test
    chosen-stocked : (b : Bool) (first second : Side) (at : Context) → AreStaged file limits at.routine ids given at.env
        → HaveValues ids given (side_arguments first) → HaveValues ids given (side_arguments second)
        → Stocks file limits ids given (side_unfolds file (if b then first else second) at)
    chosen-stocked true first second at has p q = (side-supplied file limits first at ids given has p).nodes
    chosen-stocked false first second at has p q = (side-supplied file limits second at ids given has q).nodes

    -- the slots of a call
    parameters-staged : (func : ℕ) (env : List Arg) (names : List (List ℕ)) (args : List Arg)
        → AreStaged file limits func ids given env → AreGiven ids given args
        → AreStaged file limits func ids given (with_parameters (locals file func) env names args)
    parameters-staged func env [] args has are = has
    parameters-staged func env (name ∷ names) [] has are = has
    parameters-staged func env (name ∷ names) (a ∷ args) has are =
        parameters-staged func (set_slot (locals file func) env name a) names args (
          set_count (locals file func) env name a has.0,
          set_given (locals file func) ids given env name a has.1 are.0,
        ) are.1

    -- the body of a function
    body-stocked : (left func : ℕ) (f : Func) (args : List Arg) (at : Context) → AreGiven ids given args
        → Stocks file limits ids given (body_refined file left func f args at)
    body-stocked zero func f args at are = stop-stocked ids given at (Limit Depth at.line)
    body-stocked (suc left) func f args at are =
        let slots = locals file func in
        let none = slots_unbound slots ids given in
        let env = with_parameters slots (unbound_slots slots) (map (λ x. x.1) f.params) args in
        mapped-stocked ids given (started file func (suc at.depth) start.Body [] env) (λ d. only_value d.value)
        (started-stocked func (suc at.depth) [] start.Body ids given env tt
        (parameters-staged func (unbound_slots slots) (map (λ x. x.1) f.params) args (none.count, none.all_given) are))

    -- as many arguments as parameters, or a TypeError
    count-stocked : (b : Bool) (func : ℕ) (f : Func) (args : List Arg) (at : Context) → AreGiven ids given args
        → Stocks file limits ids given
        (if b then body_refined file (limits.depth - at.depth) func f args at else stop_by at TypeError)
    count-stocked true func f args at are = body-stocked (limits.depth - at.depth) func f args at are
    count-stocked false func f args at are = stop-stocked ids given at (Raised TypeError at.line)

    -- an Enter
    enter-stocked : (o : Option Func) (func : ℕ) (args : List Arg) (at : Context) → AreGiven ids given args
        → Stocks file limits ids given (function_refined file limits o func args at)
    enter-stocked None func args at are = stop-stocked ids given at (Raised NameError at.line)
    enter-stocked (Some f) func args at are =
        count-stocked (nat_eq (length args) (length f.params)) func f args at are

    -- a composite that goes on by the value of its control
    control-stocked : (o : Option Value) (at : Context) (next : Value → Making Done)
        → ((v : Value) → Stocks file limits ids given (next v)) → Stocks file limits ids given (if_control o at next)
    control-stocked None at next p = stop-stocked ids given at (Raised NameError at.line)
    control-stocked (Some v) at next p = p v

    -- a loop's node that has what it needs
    node-stocked : (node : Node) (chosen : Option Value) (a : Arg) (k turns : ℕ) (rest : List Frame) (env : List Arg)
        → AreGiven ids given (a ∷ (rest_arguments rest ++ env)) → HasSome ids given a
        → IsTrue (have_values given (rest_arguments rest)) → AreFilled file node.routine env
        → Stocks file limits ids given (if_control chosen (context_of node env) (λ v.
        loop_refined file limits node.routine node.depth k rest (compound_at file node.routine k)
        (line_at file node.routine k) turns a v env))
    node-stocked node chosen a k turns rest env are some there filled =
        control-stocked chosen (context_of node env) _ (λ v.
        loop-stocked node.routine node.depth k rest ids given env
        (values-had ids given (rest_arguments rest) (given-left ids given (rest_arguments rest) env are.1) there)
        (filled, given-right ids given (rest_arguments rest) env are.1)
        (compound_at file node.routine k) (line_at file node.routine k) turns a v some)

    -- the piece of each composite that has what it needs
    pub work-stocked : (w : Work) (node : Node) (chosen : Option Value) → AreGiven ids given (arguments w)
        → HasNeeds file node.routine given w → Stocks file limits ids given (work_refined file limits w node chosen)
    work-stocked (Op op args) node chosen are needs = pure-stocked file limits ids given (only_value Unbound)
    work-stocked (Read arg kind) node chosen are needs = pure-stocked file limits ids given (only_value Unbound)
    work-stocked (Call func args) node chosen are needs = pure-stocked file limits ids given (only_value Unbound)
    work-stocked (Stop fault) node chosen are needs = pure-stocked file limits ids given (only_value Unbound)
    work-stocked (Print args) node chosen are needs = pure-stocked file limits ids given (only_value Unbound)
    work-stocked (Run func args) node chosen are needs = pure-stocked file limits ids given (only_value Unbound)
    work-stocked (Cond test k arm rest env) node chosen are needs =
        control-stocked chosen (context_of node env) _ (λ v.
        cond-stocked node.routine node.depth k rest ids given env
        (values-had ids given (rest_arguments rest) (given-left ids given (rest_arguments rest) env are.1) needs.1)
        (needs.2, given-right ids given (rest_arguments rest) env are.1)
        (arms_of (compound_at file node.routine k)) (passage_at file node.routine k).point arm
        (slice_get (arms_of (compound_at file node.routine k)) arm) (is_true v))
    work-stocked (While test k turns rest env) node chosen are needs =
        node-stocked node chosen test k turns rest env are (value-had ids given test are.0 needs.0) needs.1 needs.2
    work-stocked (For over k turns rest env) node chosen are needs =
        node-stocked node chosen over k turns rest env are (value-had ids given over are.0 needs.0) needs.1 needs.2
    work-stocked (Pick test first second env) node chosen are needs =
        let others = given-right ids given (side_arguments first) (side_arguments second ++ env) are.1 in
        control-stocked chosen (context_of node env) _ (λ v.
        mapped-stocked ids given (side_unfolds file (if is_true v then first else second) (context_of node env)) only_value
        (chosen-stocked (is_true v) first second (context_of node env)
        (needs.3, given-right ids given (side_arguments second) env others)
        (values-had ids given (side_arguments first)
        (given-left ids given (side_arguments first) (side_arguments second ++ env) are.1) needs.1)
        (values-had ids given (side_arguments second) (given-left ids given (side_arguments second) env others) needs.2)))
    work-stocked (Enter func args) node chosen are needs =
        enter-stocked (function file func) func args (context_of node []) are
