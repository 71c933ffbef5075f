-- The nodes of statements, one behind the other.
use Rattle.std.specs.Prelude.{ℕ, suc, List, [], ◌∷◌, ◌++◌, length, Bool, true, false, ◌||◌, Option, Some, None}
use Rattle.pyd_value.specs.declared.value.Value.{Bool as Truth}
use Rattle.pyd_value.specs.declared.value.Value.TheVariants as value
use Rattle.pyd_value.specs.declared.fault.Kind.TheVariants.{ValueError}
use Rattle.pyd_value.specs.declared.operator.BinOp.{BinOp}
use Rattle.pyd_tree.specs.declared.expression.Expr.{Expr}
use Rattle.pyd_tree.specs.declared.statement.What.{What, out-What}
use Rattle.pyd_tree.specs.declared.statement.What.TheOpen.{What-F}
use Rattle.pyd_tree.specs.declared.statement.Arm.{Arm, out-Arm}
use Rattle.pyd_tree.specs.declared.statement.Block.{Block}
use Rattle.pyd_tree.specs.declared.statement.Stmt.{Stmt}
use Rattle.pyd_tree.specs.declared.statement.Targets.{Targets}
use Rattle.pyd_tree.specs.declared.file.File.{File}
use Rattle.pyd_names.specs.Binding.{locals}
use Rattle.pyd_names.specs.WellFormed.{some_are}
use Rattle.pyd_scope.specs.Jumps.{returns, breaks_in}
use Rattle.pyd_ir.specs.declared.arg.Arg.{Arg}
use Rattle.pyd_ir.specs.declared.arg.Arg.TheVariants.{Known, From, Unbound}
use Rattle.pyd_ir.specs.declared.code.OpCode.TheVariants as code
use Rattle.pyd_ir.specs.declared.node.Node.{Node}
use Rattle.pyd_ir.specs.declared.work.Side.TheVariants as side
use Rattle.pyd_ir.specs.declared.work.Frame.{Frame}
use Rattle.pyd_ir.specs.declared.work.Frame.TheVariants.{After}
use Rattle.pyd_ir.specs.declared.work.Work.{Work}
use Rattle.pyd_ir.specs.declared.work.Work.TheVariants.{Op, Cond, While, For}
use Rattle.pyd_translate.specs.Making.{Making, Piece, Context, pure, stop_by, emit, port, ◌>>>◌}
use Rattle.pyd_scope.specs.Numbering.{Point, past_statement, past_expression}
use Rattle.pyd_translate.specs.Slots.{set_slot, slot_ports}
use Rattle.pyd_translate.specs.Expressions.{expression_unfolds, name_operand, operator, choose}

-- what a piece of statements ends with: the arguments of the slots, and of the value that was returned
pub record Done : Type 0 where
  pub env : List Arg
  pub value : Arg

-- an end with these arguments
abbrev pub done : List Arg → Arg → Done
done env value = record { env = env; value = value }

-- an end without a value that was returned
abbrev pub finished : List Arg → Making Done
finished env = pure (done env (Known value.None))

-- behind a Stop the slots stay as they were, and the value is left out
abbrev pub or_stopped : {A : Type 0} → List Arg → List Node → Option A → ℕ → (A → Making Done)
    → Piece Done
or_stopped env nodes None next f =
    record { nodes = nodes; got = Some (done env Unbound); next = next }
or_stopped env nodes (Some a) next f =
    record { nodes = nodes ++ (f a next).nodes; got = (f a next).got; next = (f a next).next }

-- what a statement evaluates, and then what it does, unless a Stop comes before
unfoldable pub then_done : {A : Type 0} → List Arg → Making A → (A → Making Done) → Making Done
then_done env u f ids = or_stopped env (u ids).nodes (u ids).got (u ids).next f

-- how statements are left that don't return
pub data Exit : Type 0 where
  Normal : Exit
  Break : Exit
  Continue : Exit

-- what goes on from the arguments of the slots
abbrev pub Onward : Type 0
Onward = List Arg → Making Done

-- what stands behind a statement: the rest behind its block, how that goes on by the way in which the block is left, and what follows the statement in the block
pub record Sequel : Type 0 where
  pub rest : List Frame
  pub leave : Exit → Onward
  pub next : Onward

-- whether a statement may leave its block early: a `return` stands in it, or a `break` or `continue` of a loop round it
abbrev pub may_leave : Stmt → Bool
may_leave s = some_are (returns s) || some_are (breaks_in s)

-- the members of what is unpacked from a port on, for so many targets
abbrev pub set_members : List (List ℕ) → List Arg → ℕ → ℕ → List (List ℕ) → List Arg
set_members slots env id p [] = env
set_members slots env id p (name ∷ names) =
    set_members slots (set_slot slots env name (From (port id p))) id (suc p) names

-- the slots with targets bound to an argument: one target takes the argument itself, and for a tuple of targets a node unpacks it
abbrev pub bind_targets : List (List ℕ) → Bool → List (List ℕ) → Context → Arg → Making (List Arg)
bind_targets slots false (name ∷ []) at a = pure (set_slot slots at.env name a)
bind_targets slots false [] at a = stop_by at ValueError
bind_targets slots false (name ∷ other ∷ names) at a = stop_by at ValueError
bind_targets slots true names at a =
    emit at (Op (code.Unpack (length names)) (a ∷ []))
    >>> (λ id. pure (set_members slots at.env id 0 names))

-- a composite that has taken the rest with it: the slots and the value are its ports
abbrev pub ported : List (List ℕ) → ℕ → Making Done
ported slots id = pure (done (slot_ports id 0 slots) (From (port id (length slots))))

-- a composite made from its rest, for statement k: one that may leave its block early takes the rest with it, any other has an empty rest and its slot ports go on
abbrev pub with_rest : List (List ℕ) → Bool → ℕ → (List Frame → Work) → Context → Sequel
    → Making Done
with_rest slots true k work at sequel = emit at (work (After k ∷ sequel.rest)) >>> ported slots
with_rest slots false k work at sequel =
    emit at (work []) >>> (λ id. sequel.next (slot_ports id 0 slots))

-- a line of a routine at a depth, with the arguments of the slots
abbrev pub context : ℕ → ℕ → ℕ → List Arg → Context
context routine depth line env = record { line = line; depth = depth; routine = routine; env = env }

-- the same in another line
abbrev pub in_line : ℕ → Context → Context
in_line line at = context at.routine at.depth line at.env

module _ (file : File) where
  -- the names of the slots where nodes are made
  abbrev pub slots_at : Context → List (List ℕ)
  slots_at at = locals file at.routine

  -- the first expression of a statement that begins at a place
  abbrev pub header : Expr → Point → Context → Making Arg
  header e p at = expression_unfolds file e p.expression at

  -- the slots after an assignment
  abbrev pub assigned : Targets → Context → Arg → Making (List Arg)
  assigned targets at a = bind_targets (slots_at at) targets.tuple targets.names at a

  -- the slots after an augmented assignment, whose name is read before the right side
  abbrev pub augmented : List ℕ → BinOp → Expr → Point → Context → Making (List Arg)
  augmented name op e p at =
      name_operand file name at >>> (λ a. header e p at
      >>> (λ b. operator (code.Binary op) (a ∷ b ∷ []) at
      >>> (λ c. pure (set_slot (slots_at at) at.env name c))))

  -- the message of an `assert`, expression number n, evaluated where the test is false
  abbrev pub message_unfolds : Option Expr → ℕ → Context → Arg → Making Arg
  message_unfolds None n at test = pure test
  message_unfolds (Some e) n at test = choose at test (side.Arg (Known value.None)) (side.Expr n)

  -- an `assert`: its message, and then the test once more
  abbrev pub asserted : Option Expr → ℕ → Context → Arg → Making (List Arg)
  asserted message n at test =
      message_unfolds message n at test >>> (λ m. operator code.Assert (test ∷ []) at
      >>> (λ v. pure at.env))

  -- a `return` drops the rest
  abbrev pub returned : Option Expr → Point → Context → Making Done
  returned None p at = finished at.env
  returned (Some e) p at = then_done at.env (header e p at) (λ a. pure (done at.env a))

  -- the header of a compound statement, and its composite
  abbrev pub headed_by : Expr → (Arg → List Frame → Work) → Bool → Point → Context → Sequel
      → Making Done
  headed_by e work early p at sequel =
      then_done at.env (header e p at)
      (λ a. with_rest (slots_at at) early p.statement (work a) at sequel)

  -- an `if` with the test of its first arm, in that arm's line; one without an arm is its `else`
  abbrev pub if_unfolds : List Arm → Bool → Point → Context → Sequel → Making Done
  if_unfolds [] early p at sequel =
      with_rest (slots_at at) early p.statement
      (λ rest. Cond (Known (Truth false)) p.statement 0 rest at.env) at sequel
  if_unfolds (a ∷ arms) early p at sequel =
      headed_by (out-Arm a).test (λ t rest. Cond t p.statement 0 rest at.env) early p
      (in_line (out-Arm a).line at) sequel

  -- a statement that begins at a place and may leave its block early; a loop has made no turn
  abbrev pub what_unfolds : What-F What Arm Block Stmt → Bool → Point → Context → Sequel
      → Making Done
  what_unfolds (What-F.Expr e) early p at sequel =
      then_done at.env (header e p at) (λ a. sequel.next at.env)
  what_unfolds (What-F.Assign targets e) early p at sequel =
      then_done at.env (header e p at >>> assigned targets at) sequel.next
  what_unfolds (What-F.Aug name op e) early p at sequel =
      then_done at.env (augmented name op e p at) sequel.next
  what_unfolds (What-F.If arms otherwise) early p at sequel = if_unfolds arms early p at sequel
  what_unfolds (What-F.While test body) early p at sequel =
      headed_by test (λ t rest. While t p.statement 0 rest at.env) early p at sequel
  what_unfolds (What-F.For targets e body) early p at sequel =
      headed_by e (λ over rest. For over p.statement 0 rest at.env) early p at sequel
  what_unfolds (What-F.Return e) early p at sequel = returned e p at
  what_unfolds What-F.Break early p at sequel = sequel.leave Break at.env
  what_unfolds What-F.Continue early p at sequel = sequel.leave Continue at.env
  what_unfolds What-F.Pass early p at sequel = sequel.next at.env
  what_unfolds (What-F.Assert test message) early p at sequel =
      then_done at.env (header test p at
      >>> asserted message (past_expression test p).expression at) sequel.next

  module _ (routine depth : ℕ) where
    -- statements that begin at a place, and then the rest
    unfoldable pub stmts_unfold : List Stmt → Point → List Frame → (Exit → Onward) → Onward
    stmts_unfold [] p rest leave env = leave Normal env
    stmts_unfold (s ∷ ss) p rest leave env =
        what_unfolds (out-What s.what) (may_leave s) p (context routine depth s.line env) (record {
          rest = rest;
          leave = leave;
          next = stmts_unfold ss (past_statement s p) rest leave;
        })
