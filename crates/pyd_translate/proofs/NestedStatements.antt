-- The composites of one statement have nested rests, where what goes on behind it has.
use Rattle.std.proofs.Common.{ℕ, List, [], ◌∷◌, length, Option, Some, None, Bool, true, false}
use Rattle.pyd_value.specs.declared.value.Value.{Bool as Truth}
use Rattle.pyd_value.specs.declared.value.Value.TheVariants as value
use Rattle.pyd_value.specs.declared.fault.Fault.TheVariants.{Raised}
use Rattle.pyd_value.specs.declared.fault.Kind.TheVariants.{ValueError}
use Rattle.pyd_value.specs.declared.operator.BinOp.{BinOp}
use Rattle.pyd_tree.specs.declared.expression.Expr.{Expr}
use Rattle.pyd_tree.specs.declared.statement.What.{What}
use Rattle.pyd_tree.specs.declared.statement.What.TheOpen.{What-F}
use Rattle.pyd_tree.specs.declared.statement.Arm.{Arm, out-Arm}
use Rattle.pyd_tree.specs.declared.statement.Block.{Block}
use Rattle.pyd_tree.specs.declared.statement.Stmt.{Stmt}
use Rattle.pyd_tree.specs.declared.file.File.{File}
use Rattle.pyd_ir.specs.declared.arg.Arg.{Arg}
use Rattle.pyd_ir.specs.declared.arg.Arg.TheVariants.{Known, From}
use Rattle.pyd_ir.specs.declared.work.Frame.{Frame}
use Rattle.pyd_ir.specs.declared.work.Frame.TheVariants.{After}
use Rattle.pyd_ir.specs.declared.work.Work.{Work}
use Rattle.pyd_ir.specs.declared.work.Work.TheVariants.{Cond, While, For}
use Rattle.pyd_scope.specs.Numbering.{Point, past_expression}
use Rattle.pyd_translate.specs.Making.{Context, emit, port, ◌>>>◌}
use Rattle.pyd_translate.specs.Slots.{set_slot, slot_ports}
use Rattle.pyd_translate.specs.Expressions.{name_operand}
use Rattle.pyd_translate.specs.Statements.{done, Exit, Break, Continue, Sequel, set_members, bind_targets, ported, with_rest, in_line, slots_at, header, assigned, augmented, message_unfolds, asserted, returned, headed_by, if_unfolds, what_unfolds}
use Rattle.pyd_translate.specs.Nested.{end_of, IsNested, HasNested}
use Rattle.pyd_translate.proofs.NestedNodes.{Nests, then_nests, done_nests, pure_nests, emit_nests, value_nests, stop_nests, name_nests}
use Rattle.pyd_translate.proofs.NestedExpressions.{expression_nests}

module _ (file : File) where
  -- what stands behind statement k: the rest that a composite takes with it, and the nodes of what goes on
  pub record IsNestedSequel (routine k : ℕ) (sequel : Sequel) : Type 0 where
    pub taken : IsNested file routine k (end_of file routine k) (After k ∷ sequel.rest)
    pub leave : (exit : Exit) (env : List Arg) → Nests file (sequel.leave exit env)
    pub next : (env : List Arg) → Nests file (sequel.next env)

  -- the composite of statement k has a nested rest, where that is given
  abbrev IsNestedWork : ℕ → ℕ → (List Frame → Work) → Type 0
  IsNestedWork routine k work =
      (rest : List Frame) → IsNested file routine k (end_of file routine k) rest
      → HasNested file routine (work rest)

  -- targets that are bound
  targets_nest : (slots : List (List ℕ)) (tuple : Bool) (names : List (List ℕ)) (at : Context)
      (a : Arg) → Nests file (bind_targets slots tuple names at a)
  targets_nest slots false [] at a = stop_nests file (List Arg) at (Raised ValueError at.line)
  targets_nest slots false (name ∷ []) at a = pure_nests file (set_slot slots at.env name a)
  targets_nest slots false (name ∷ other ∷ names) at a =
      stop_nests file (List Arg) at (Raised ValueError at.line)
  targets_nest slots true names at a =
      then_nests file _ _ (emit_nests file at _ tt)
      (λ id. pure_nests file (set_members slots at.env id 0 names))

  -- a composite that has taken the rest with it
  pub ported_nests : (slots : List (List ℕ)) (at : Context) (work : Work)
      → HasNested file at.routine work → Nests file (emit at work >>> ported slots)
  ported_nests slots at work is =
      then_nests file (emit at work) (ported slots) (emit_nests file at work is)
      (λ id. pure_nests file (done (slot_ports id 0 slots) (From (port id (length slots)))))

  -- a composite made from its rest
  rest_nests : (slots : List (List ℕ)) (early : Bool) (k : ℕ) (work : List Frame → Work)
      (at : Context) (sequel : Sequel) → IsNestedSequel at.routine k sequel
      → IsNestedWork at.routine k work → Nests file (with_rest slots early k work at sequel)
  rest_nests slots true k work at sequel is made =
      ported_nests slots at (work (After k ∷ sequel.rest)) (made (After k ∷ sequel.rest) is.taken)
  rest_nests slots false k work at sequel is made =
      then_nests file (emit at (work [])) (λ id. sequel.next (slot_ports id 0 slots))
      (emit_nests file at (work []) (made [] tt)) (λ id. is.next (slot_ports id 0 slots))

  -- the first expression of a statement
  header_nests : (e : Expr) (p : Point) (at : Context) → Nests file (header file e p at)
  header_nests e p at = expression_nests file e p.expression at

  -- the slots after an augmented assignment
  augmented_nests : (name : List ℕ) (op : BinOp) (e : Expr) (p : Point) (at : Context)
      → Nests file (augmented file name op e p at)
  augmented_nests name op e p at =
      then_nests file (name_operand file name at) _ (name_nests file name at)
      (λ a. then_nests file (header file e p at) _ (header_nests e p at)
      (λ b. then_nests file _ _ (value_nests file at _ tt)
      (λ c. pure_nests file (set_slot (slots_at file at) at.env name c))))

  -- the message of an `assert`
  message_nests : (message : Option Expr) (n : ℕ) (at : Context) (test : Arg)
      → Nests file (message_unfolds file message n at test)
  message_nests None n at test = pure_nests file test
  message_nests (Some e) n at test = value_nests file at _ tt

  -- an `assert`
  asserted_nests : (message : Option Expr) (n : ℕ) (at : Context) (test : Arg)
      → Nests file (asserted file message n at test)
  asserted_nests message n at test =
      then_nests file (message_unfolds file message n at test) _ (message_nests message n at test)
      (λ m. then_nests file _ _ (value_nests file at _ tt) (λ v. pure_nests file at.env))

  -- a `return`
  returned_nests : (e : Option Expr) (p : Point) (at : Context) → Nests file (returned file e p at)
  returned_nests None p at = pure_nests file (done at.env (Known value.None))
  returned_nests (Some e) p at =
      done_nests file at.env (header file e p at) _ (header_nests e p at)
      (λ a. pure_nests file (done at.env a))

  -- the header of a compound statement, and its composite
  headed_nests : (e : Expr) (work : Arg → List Frame → Work) (early : Bool) (p : Point)
      (at : Context) (sequel : Sequel) → IsNestedSequel at.routine p.statement sequel
      → ((a : Arg) → IsNestedWork at.routine p.statement (work a))
      → Nests file (headed_by file e work early p at sequel)
  headed_nests e work early p at sequel is made =
      done_nests file at.env (header file e p at) _ (header_nests e p at)
      (λ a. rest_nests (slots_at file at) early p.statement (work a) at sequel is (made a))

  -- an `if`
  if_nests : (arms : List Arm) (early : Bool) (p : Point) (at : Context) (sequel : Sequel)
      → IsNestedSequel at.routine p.statement sequel
      → Nests file (if_unfolds file arms early p at sequel)
  if_nests [] early p at sequel is =
      rest_nests (slots_at file at) early p.statement
      (λ rest. Cond (Known (Truth false)) p.statement 0 rest at.env) at sequel is (λ rest q. q)
  if_nests (a ∷ arms) early p at sequel is =
      headed_nests (out-Arm a).test (λ t rest. Cond t p.statement 0 rest at.env) early p
      (in_line (out-Arm a).line at) sequel is (λ t rest q. q)

  -- a statement, and what goes on behind it
  pub what_nests : (y : What-F What Arm Block Stmt) (early : Bool) (p : Point) (at : Context)
      (sequel : Sequel) → IsNestedSequel at.routine p.statement sequel
      → Nests file (what_unfolds file y early p at sequel)
  what_nests (What-F.Expr e) early p at sequel is =
      done_nests file at.env (header file e p at) _ (header_nests e p at) (λ a. is.next at.env)
  what_nests (What-F.Assign targets e) early p at sequel is =
      done_nests file at.env (header file e p at >>> assigned file targets at) sequel.next
      (then_nests file (header file e p at) (assigned file targets at) (header_nests e p at)
      (λ a. targets_nest (slots_at file at) targets.tuple targets.names at a))
      is.next
  what_nests (What-F.Aug name op e) early p at sequel is =
      done_nests file at.env (augmented file name op e p at) sequel.next
      (augmented_nests name op e p at) is.next
  what_nests (What-F.If arms otherwise) early p at sequel is = if_nests arms early p at sequel is
  what_nests (What-F.While test body) early p at sequel is =
      headed_nests test (λ t rest. While t p.statement 0 rest at.env) early p at sequel is
      (λ t rest q. q)
  what_nests (What-F.For targets e body) early p at sequel is =
      headed_nests e (λ over rest. For over p.statement 0 rest at.env) early p at sequel is
      (λ over rest q. q)
  what_nests (What-F.Return e) early p at sequel is = returned_nests e p at
  what_nests What-F.Break early p at sequel is = is.leave Break at.env
  what_nests What-F.Continue early p at sequel is = is.leave Continue at.env
  what_nests What-F.Pass early p at sequel is = is.next at.env
  what_nests (What-F.Assert test message) early p at sequel is =
      done_nests file at.env
      (header file test p at >>> asserted file message (past_expression test p).expression at)
      sequel.next
      (then_nests file (header file test p at)
      (asserted file message (past_expression test p).expression at) (header_nests test p at)
      (λ t. asserted_nests message (past_expression test p).expression at t))
      is.next
