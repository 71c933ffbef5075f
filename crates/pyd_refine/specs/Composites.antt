-- The nodes that take the place of a composite, rule by rule, by the value of its control.
use Rattle.std.specs.Prelude.{ℕ, zero, suc, ◌-◌, List, [], ◌∷◌, length, map, take, nat_eq, Bool, true, false, if◌then◌else◌, Option, Some, None}
use Rattle.std.specs.List.{slice_get}
use Rattle.pyd_value.specs.declared.value.Value.{Value}
use Rattle.pyd_value.specs.declared.value.Value.TheVariants as value
use Rattle.pyd_value.specs.declared.fault.Fault.TheVariants.{Limit}
use Rattle.pyd_value.specs.declared.fault.Limit.TheVariants.{Turn, Depth}
use Rattle.pyd_value.specs.declared.fault.Kind.TheVariants.{NameError, TypeError}
use Rattle.pyd_value.specs.Truth.{is_true}
use Rattle.pyd_tree.specs.declared.statement.Arm.{Arm, out-Arm}
use Rattle.pyd_tree.specs.declared.statement.Targets.{Targets}
use Rattle.pyd_tree.specs.declared.file.File.{File}
use Rattle.pyd_tree.specs.declared.file.Func.{Func}
use Rattle.pyd_names.specs.Binding.{locals, function}
use Rattle.pyd_meaning.specs.declared.limits.Limits.{Limits}
use Rattle.pyd_meaning.specs.Loops.{Items, items_over}
use Rattle.pyd_meaning.specs.Statement.{calls_range}
use Rattle.pyd_meaning.specs.Module.{setting_at}
use Rattle.pyd_ir.specs.declared.arg.Arg.{Arg}
use Rattle.pyd_ir.specs.declared.arg.Arg.TheVariants.{Known, Unbound}
use Rattle.pyd_ir.specs.declared.node.Node.{Node}
use Rattle.pyd_ir.specs.declared.work.Frame.{Frame}
use Rattle.pyd_ir.specs.declared.work.Frame.TheVariants.{Again}
use Rattle.pyd_ir.specs.declared.work.Side.{Side}
use Rattle.pyd_ir.specs.declared.work.Work.{Work}
use Rattle.pyd_ir.specs.declared.work.Work.TheVariants.{Op, Read, Call, Stop, Print, Run, Cond, While, For, Pick, Enter}
use Rattle.pyd_scope.specs.Numbering.{Point, past, inside, arms_contents}
use Rattle.pyd_scope.specs.Passages.{passage_at}
use Rattle.pyd_translate.specs.declared.at.Start.{Start}
use Rattle.pyd_translate.specs.declared.at.Start.TheVariants as start
use Rattle.pyd_translate.specs.declared.piece.Piece.{Piece}
use Rattle.pyd_translate.specs.Compounds.{Compound, Choice, WhileLoop, ForLoop, Simple, compound_at, line_at}
use Rattle.pyd_translate.specs.Making.{Making, Context, pure, emit, stop, stop_by, ◌>>>◌}
use Rattle.pyd_translate.specs.Slots.{set_slot, unbound_slots}
use Rattle.pyd_translate.specs.Sides.{side_unfolds}
use Rattle.pyd_translate.specs.Statements.{Done, done, Onward, then_done, ported, context, header, bind_targets}
use Rattle.pyd_translate.specs.Rests.{block_unfolds}
use Rattle.pyd_translate.specs.Starts.{passage, statements_piece}

-- the arms of an `if`, and none of any other statement
abbrev pub arms_of : Compound → List Arm
arms_of (Choice arms otherwise) = arms
arms_of (WhileLoop test body) = []
arms_of (ForLoop targets e body) = []
arms_of Simple = []

-- the place of an arm of an `if` that begins at a place
abbrev pub arm_point : List Arm → ℕ → Point → Point
arm_point arms arm p = past (arms_contents (take arm arms)) (inside p)

-- the slots of a call: each parameter in turn takes its argument
abbrev pub with_parameters : List (List ℕ) → List Arg → List (List ℕ) → List Arg → List Arg
with_parameters slots env [] args = env
with_parameters slots env (name ∷ names) [] = env
with_parameters slots env (name ∷ names) (a ∷ args) =
    with_parameters slots (set_slot slots env name a) names args

-- an end that has a value alone
abbrev pub only_value : Arg → Done
only_value a = done [] a

-- goes on with the value of a control; where that is absent, a Stop raises NameError, as a walk does
abbrev pub if_control : Option Value → Context → (Value → Making Done) → Making Done
if_control (Some v) at next = next v
if_control None at next = stop_by at NameError

module _ (file : File) where
  -- the statements at a start in a routine at a depth, and then the rest
  abbrev pub started : ℕ → ℕ → Start → List Frame → Onward
  started routine depth s rest env =
      block_unfolds file routine depth (passage file routine s) rest env

  module _ (routine depth k : ℕ) (rest : List Frame) where
    -- the test of an arm of `if` number k in that arm's line, and its Cond; behind the last arm the else block, or nothing, and then the rest
    abbrev pub arm_tested : Option Arm → ℕ → Point → Onward
    arm_tested (Some a) arm p env =
        then_done env (header file (out-Arm a).test p (context routine depth (out-Arm a).line env))
        (λ t. emit (context routine depth (out-Arm a).line env) (Cond t k arm rest env)
        >>> ported (locals file routine))
    arm_tested None arm p env = started routine depth (start.Otherwise k) rest env

    -- a Cond: where the test of its arm was true the arm's body, else the next arm; an arm that isn't there leaves the else block
    abbrev pub arm_refined : List Arm → Point → ℕ → Option Arm → Bool → Onward
    arm_refined arms p arm (Some a) true env = started routine depth (start.Arm k arm) rest env
    arm_refined arms p arm (Some a) false env =
        arm_tested (slice_get arms (suc arm)) (suc arm) (arm_point arms (suc arm) p) env
    arm_refined arms p arm None t env = started routine depth (start.Otherwise k) rest env

    -- the body of loop k, and then its next turn before the rest; with no turn left a Stop by TurnLimit
    abbrev pub turn_refined : ℕ → ℕ → ℕ → Arg → Onward
    turn_refined zero line turns over env = stop (context routine depth line env) (Limit Turn line)
    turn_refined (suc left) line turns over env =
        started routine depth (start.LoopBody k) (Again k (suc turns) over ∷ rest) env

    -- a While with so many turns left: where its test was false its rest, else a turn
    abbrev pub while_refined : Bool → ℕ → ℕ → ℕ → Onward
    while_refined false left line turns env = started routine depth start.Rest rest env
    while_refined true left line turns env = turn_refined left line turns (Known value.None) env

    -- a turn of a `for` with an item: its targets are bound, unless no turn is left
    abbrev pub item_turn : ℕ → Targets → Value → ℕ → ℕ → Arg → Onward
    item_turn zero targets v line turns over env = turn_refined zero line turns over env
    item_turn (suc left) targets v line turns over env =
        then_done env (bind_targets (locals file routine) targets.tuple targets.names
        (context routine depth line env) (Known v))
        (turn_refined (suc left) line turns over)

    -- a For with so many turns left: its rest where no item is there, else a turn with the item
    abbrev pub item_refined : ℕ → Targets → Option Value → ℕ → ℕ → Arg → Onward
    item_refined left targets None line turns over env = started routine depth start.Rest rest env
    item_refined left targets (Some v) line turns over env =
        item_turn left targets v line turns over env

    -- a For over these items; a Stop by TypeError where its iterable is no tuple or text, nor a range
    abbrev pub items_refined : ℕ → Targets → Option Items → ℕ → ℕ → Arg → Onward
    items_refined left targets None line turns over env =
        stop_by (context routine depth line env) TypeError
    items_refined left targets (Some items) line turns over env =
        item_refined left targets (items turns) line turns over env

  module _ (limits : Limits) (routine depth k : ℕ) (rest : List Frame) where
    -- a While or a For after so many turns, with its control and that control's value; what is no loop is over
    abbrev pub loop_refined : Compound → ℕ → ℕ → Arg → Value → Onward
    loop_refined (WhileLoop test body) line turns a v env =
        while_refined routine depth k rest (is_true v) (limits.turns - turns) line turns env
    loop_refined (ForLoop targets e body) line turns a v env =
        items_refined routine depth k rest (limits.turns - turns) targets
        (items_over (calls_range (setting_at file limits routine depth) e) v) line turns a env
    loop_refined (Choice arms otherwise) line turns a v env = started routine depth start.Rest rest env
    loop_refined Simple line turns a v env = started routine depth start.Rest rest env

  -- a Pick: the first side where its test was true, else the second
  abbrev pub side_refined : Bool → Side → Side → Context → Making Done
  side_refined t first second at =
      side_unfolds file (if t then first else second) at >>> (λ a. pure (only_value a))

  -- the body of a function that is entered, one deeper and with new slots; with no depth left a Stop by DepthLimit
  abbrev pub body_refined : ℕ → ℕ → Func → List Arg → Context → Making Done
  body_refined zero func f args at = stop at (Limit Depth at.line)
  body_refined (suc left) func f args at =
      started func (suc at.depth) start.Body []
      (with_parameters (locals file func) (unbound_slots (locals file func)) (map (λ p. p.1) f.params) args)
      >>> (λ d. pure (only_value d.value))

  -- an Enter: a function that isn't there and a wrong count of arguments stop it, as a call does
  abbrev pub function_refined : Limits → Option Func → ℕ → List Arg → Context → Making Done
  function_refined limits None func args at = stop_by at NameError
  function_refined limits (Some f) func args at =
      if nat_eq (length args) (length f.params)
      then body_refined (limits.depth - at.depth) func f args at
      else stop_by at TypeError

-- the header of a loop, for a node and with these arguments of its slots
abbrev pub header_of : File → Node → ℕ → List Arg → Context
header_of file node k env = context node.routine node.depth (line_at file node.routine k) env

-- the place of a node, with these arguments of its slots
abbrev pub context_of : Node → List Arg → Context
context_of node env = context node.routine node.depth node.line env

-- the slots that have ports
abbrev pub slots_of : Work → List Arg
slots_of (Op op args) = []
slots_of (Read arg kind) = []
slots_of (Call func args) = []
slots_of (Stop fault) = []
slots_of (Print args) = []
slots_of (Run func args) = []
slots_of (Cond test k arm rest env) = env
slots_of (While test k turns rest env) = env
slots_of (For over k turns rest env) = env
slots_of (Pick test first second env) = []
slots_of (Enter func args) = []

module _ (file : File) (limits : Limits) where
  -- the nodes that take the place of a node with this work, by the value of its control; no piece takes that of a leaf
  abbrev pub work_refined : Work → Node → Option Value → Making Done
  work_refined (Op op args) node control = pure (only_value Unbound)
  work_refined (Read arg kind) node control = pure (only_value Unbound)
  work_refined (Call func args) node control = pure (only_value Unbound)
  work_refined (Stop fault) node control = pure (only_value Unbound)
  work_refined (Print args) node control = pure (only_value Unbound)
  work_refined (Run func args) node control = pure (only_value Unbound)
  work_refined (Cond test k arm rest env) node control =
      if_control control (context_of node env) (λ v.
      arm_refined file node.routine node.depth k rest
      (arms_of (compound_at file node.routine k)) (passage_at file node.routine k).point arm
      (slice_get (arms_of (compound_at file node.routine k)) arm) (is_true v) env)
  work_refined (While test k turns rest env) node control =
      if_control control (context_of node env) (λ v.
      loop_refined file limits node.routine node.depth k rest (compound_at file node.routine k)
      (line_at file node.routine k) turns test v env)
  work_refined (For over k turns rest env) node control =
      if_control control (context_of node env) (λ v.
      loop_refined file limits node.routine node.depth k rest (compound_at file node.routine k)
      (line_at file node.routine k) turns over v env)
  work_refined (Pick test first second env) node control =
      if_control control (context_of node env) (λ v.
      side_refined file (is_true v) first second (context_of node env))
  work_refined (Enter func args) node control =
      function_refined file limits (function file func) func args (context_of node [])

  -- the nodes that take the place of a composite
  abbrev pub refined : Node → Option Value → Making Done
  refined node control = work_refined node.work node control

  -- the same as one piece: behind a Stop the slots are as they were
  abbrev pub refined_piece : Node → Option Value → ℕ → Piece
  refined_piece node control ids =
      statements_piece (slots_of node.work) (refined node control ids)
