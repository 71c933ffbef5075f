-- The nodes of one statement have their callees, where those of what goes on behind it have.
use Rattle.std.proofs.Common.{ℕ, List, [], ◌∷◌, length, Option, Some, None, Bool, true, false}
use Rattle.pyd_value.specs.declared.value.Value.{Bool as Truth}
use Rattle.pyd_value.specs.declared.value.Value.TheVariants as value
use Rattle.pyd_value.specs.declared.fault.Fault.TheVariants.{Raised}
use Rattle.pyd_value.specs.declared.fault.Kind.TheVariants.{ValueError}
use Rattle.pyd_value.specs.declared.operator.BinOp.{BinOp}
use Rattle.pyd_tree.specs.declared.expression.Expr.{Expr}
use Rattle.pyd_tree.specs.declared.statement.What.{What}
use Rattle.pyd_tree.specs.declared.statement.What.TheOpen.{What-F}
use Rattle.pyd_tree.specs.declared.statement.Arm.{Arm, out-Arm}
use Rattle.pyd_tree.specs.declared.statement.Block.{Block}
use Rattle.pyd_tree.specs.declared.statement.Stmt.{Stmt}
use Rattle.pyd_tree.specs.declared.file.File.{File}
use Rattle.pyd_ir.specs.declared.arg.Arg.{Arg}
use Rattle.pyd_ir.specs.declared.arg.Arg.TheVariants.{Known, From}
use Rattle.pyd_ir.specs.declared.work.Frame.{Frame}
use Rattle.pyd_ir.specs.declared.work.Frame.TheVariants.{After}
use Rattle.pyd_ir.specs.declared.work.Work.{Work}
use Rattle.pyd_ir.specs.declared.work.Work.TheVariants.{Cond, While, For}
use Rattle.pyd_scope.specs.Numbering.{Point, past_expression}
use Rattle.pyd_translate.specs.Making.{Context, emit, port, ◌>>>◌}
use Rattle.pyd_translate.specs.Slots.{set_slot, slot_ports}
use Rattle.pyd_translate.specs.Expressions.{name_operand}
use Rattle.pyd_translate.specs.Statements.{done, Exit, Break, Continue, Sequel, set_members, bind_targets, ported, with_rest, in_line, slots_at, header, assigned, augmented, message_unfolds, asserted, returned, headed_by, if_unfolds, what_unfolds}
use Rattle.pyd_runs.specs.Callees.{HasCallee}
use Rattle.pyd_runs.proofs.CalleeNodes.{Callees, then_callees, done_callees, pure_callees, emit_callees, value_callees, stop_callees, name_callees}
use Rattle.pyd_runs.proofs.CalleeExpressions.{expression_callees}

module _ (file : File) where
  -- the nodes of what goes on behind a statement
  pub record SequelCallees (sequel : Sequel) : Type 0 where
    pub leave : (exit : Exit) (env : List Arg) → Callees file (sequel.leave exit env)
    pub next : (env : List Arg) → Callees file (sequel.next env)

  -- a composite, whatever its rest
  abbrev WorkCallees : (List Frame → Work) → Type 0
  WorkCallees work = (rest : List Frame) → HasCallee file (work rest)

  -- targets that are bound
  pub targets_callees : (slots : List (List ℕ)) (tuple : Bool) (names : List (List ℕ)) (at : Context)
      (a : Arg) → Callees file (bind_targets slots tuple names at a)
  targets_callees slots false [] at a = stop_callees file (List Arg) at (Raised ValueError at.line)
  targets_callees slots false (name ∷ []) at a = pure_callees file (set_slot slots at.env name a)
  targets_callees slots false (name ∷ other ∷ names) at a =
      stop_callees file (List Arg) at (Raised ValueError at.line)
  targets_callees slots true names at a =
      then_callees file _ _ (emit_callees file at _ tt)
      (λ id. pure_callees file (set_members slots at.env id 0 names))

  -- a composite that has taken the rest with it
  pub ported_callees : (slots : List (List ℕ)) (at : Context) (work : Work)
      → HasCallee file work → Callees file (emit at work >>> ported slots)
  ported_callees slots at work is =
      then_callees file (emit at work) (ported slots) (emit_callees file at work is)
      (λ id. pure_callees file (done (slot_ports id 0 slots) (From (port id (length slots)))))

  -- a composite made from its rest
  rest_callees : (slots : List (List ℕ)) (early : Bool) (k : ℕ) (work : List Frame → Work)
      (at : Context) (sequel : Sequel) → SequelCallees sequel
      → WorkCallees work → Callees file (with_rest slots early k work at sequel)
  rest_callees slots true k work at sequel is made =
      ported_callees slots at (work (After k ∷ sequel.rest)) (made (After k ∷ sequel.rest))
  rest_callees slots false k work at sequel is made =
      then_callees file (emit at (work [])) (λ id. sequel.next (slot_ports id 0 slots))
      (emit_callees file at (work []) (made [])) (λ id. is.next (slot_ports id 0 slots))

  -- the first expression of a statement
  pub header_callees : (e : Expr) (p : Point) (at : Context) → Callees file (header file e p at)
  header_callees e p at = expression_callees file e p.expression at

  -- the slots after an augmented assignment
  augmented_callees : (name : List ℕ) (op : BinOp) (e : Expr) (p : Point) (at : Context)
      → Callees file (augmented file name op e p at)
  augmented_callees name op e p at =
      then_callees file (name_operand file name at) _ (name_callees file name at)
      (λ a. then_callees file (header file e p at) _ (header_callees e p at)
      (λ b. then_callees file _ _ (value_callees file at _ tt)
      (λ c. pure_callees file (set_slot (slots_at file at) at.env name c))))

  -- the message of an `assert`
  message_callees : (message : Option Expr) (n : ℕ) (at : Context) (test : Arg)
      → Callees file (message_unfolds file message n at test)
  message_callees None n at test = pure_callees file test
  message_callees (Some e) n at test = value_callees file at _ tt

  -- an `assert`
  asserted_callees : (message : Option Expr) (n : ℕ) (at : Context) (test : Arg)
      → Callees file (asserted file message n at test)
  asserted_callees message n at test =
      then_callees file (message_unfolds file message n at test) _ (message_callees message n at test)
      (λ m. then_callees file _ _ (value_callees file at _ tt) (λ v. pure_callees file at.env))

  -- a `return`
  returned_callees : (e : Option Expr) (p : Point) (at : Context) → Callees file (returned file e p at)
  returned_callees None p at = pure_callees file (done at.env (Known value.None))
  returned_callees (Some e) p at =
      done_callees file at.env (header file e p at) _ (header_callees e p at)
      (λ a. pure_callees file (done at.env a))

  -- the header of a compound statement, and its composite
  headed_callees : (e : Expr) (work : Arg → List Frame → Work) (early : Bool) (p : Point)
      (at : Context) (sequel : Sequel) → SequelCallees sequel
      → ((a : Arg) → WorkCallees (work a))
      → Callees file (headed_by file e work early p at sequel)
  headed_callees e work early p at sequel is made =
      done_callees file at.env (header file e p at) _ (header_callees e p at)
      (λ a. rest_callees (slots_at file at) early p.statement (work a) at sequel is (made a))

  -- an `if`
  if_callees : (arms : List Arm) (early : Bool) (p : Point) (at : Context) (sequel : Sequel)
      → SequelCallees sequel
      → Callees file (if_unfolds file arms early p at sequel)
  if_callees [] early p at sequel is =
      rest_callees (slots_at file at) early p.statement
      (λ rest. Cond (Known (Truth false)) p.statement 0 rest at.env) at sequel is (λ rest. tt)
  if_callees (a ∷ arms) early p at sequel is =
      headed_callees (out-Arm a).test (λ t rest. Cond t p.statement 0 rest at.env) early p
      (in_line (out-Arm a).line at) sequel is (λ t rest. tt)

  -- a statement, and what goes on behind it
  pub what_callees : (y : What-F What Arm Block Stmt) (early : Bool) (p : Point) (at : Context)
      (sequel : Sequel) → SequelCallees sequel
      → Callees file (what_unfolds file y early p at sequel)
  what_callees (What-F.Expr e) early p at sequel is =
      done_callees file at.env (header file e p at) _ (header_callees e p at) (λ a. is.next at.env)
  what_callees (What-F.Assign targets e) early p at sequel is =
      done_callees file at.env (header file e p at >>> assigned file targets at) sequel.next
      (then_callees file (header file e p at) (assigned file targets at) (header_callees e p at)
      (λ a. targets_callees (slots_at file at) targets.tuple targets.names at a))
      is.next
  what_callees (What-F.Aug name op e) early p at sequel is =
      done_callees file at.env (augmented file name op e p at) sequel.next
      (augmented_callees name op e p at) is.next
  what_callees (What-F.If arms otherwise) early p at sequel is = if_callees arms early p at sequel is
  what_callees (What-F.While test body) early p at sequel is =
      headed_callees test (λ t rest. While t p.statement 0 rest at.env) early p at sequel is
      (λ t rest. tt)
  what_callees (What-F.For targets e body) early p at sequel is =
      headed_callees e (λ over rest. For over p.statement 0 rest at.env) early p at sequel is
      (λ over rest. tt)
  what_callees (What-F.Return e) early p at sequel is = returned_callees e p at
  what_callees What-F.Break early p at sequel is = is.leave Break at.env
  what_callees What-F.Continue early p at sequel is = is.leave Continue at.env
  what_callees What-F.Pass early p at sequel is = is.next at.env
  what_callees (What-F.Assert test message) early p at sequel is =
      done_callees file at.env
      (header file test p at >>> asserted file message (past_expression test p).expression at)
      sequel.next
      (then_callees file (header file test p at)
      (asserted file message (past_expression test p).expression at) (header_callees test p at)
      (λ t. asserted_callees message (past_expression test p).expression at t))
      is.next
