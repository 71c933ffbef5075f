-- Statements have 3 nodes for each statement, arm, expression and suffix in them at most.
use Rattle.std.proofs.Common.{◌≡◌, ◌≤◌, ℕ, ◌+◌, ◌*◌, List, [], ◌∷◌, map, length, true, false, Bool, Option, Some, None, ap, ◌∙◌, arith}
use Rattle.pyd_value.specs.declared.value.Value.{Bool as Truth}
use Rattle.pyd_value.specs.declared.value.Value.TheVariants as value
use Rattle.pyd_value.specs.Size.{total}
use Rattle.pyd_value.specs.declared.fault.Fault.TheVariants.{Raised}
use Rattle.pyd_value.specs.declared.fault.Kind.TheVariants.{ValueError}
use Rattle.pyd_value.specs.declared.operator.BinOp.{BinOp}
use Rattle.pyd_tree.specs.declared.expression.Expr.{Expr}
use Rattle.pyd_tree.specs.declared.statement.What.{What, out-What, fold-What}
use Rattle.pyd_tree.specs.declared.statement.What.TheOpen.{What-F}
use Rattle.pyd_tree.specs.declared.statement.What.TheFolds.{map-What, fold_out-What, fold_out-Arm, fold_out-Stmt}
use Rattle.pyd_tree.specs.declared.statement.Arm.{Arm, out-Arm, fold-Arm}
use Rattle.pyd_tree.specs.declared.statement.Block.{Block, fold-Block}
use Rattle.pyd_tree.specs.declared.statement.Stmt.{Stmt}
use Rattle.pyd_tree.specs.declared.file.File.{File}
use Rattle.pyd_names.specs.WellFormed.{expression_parts, maybe_parts}
use Rattle.pyd_ir.specs.declared.arg.Arg.{Arg}
use Rattle.pyd_ir.specs.declared.arg.Arg.TheVariants.{Known, From}
use Rattle.pyd_ir.specs.declared.code.OpCode.TheVariants as code
use Rattle.pyd_ir.specs.declared.work.Side.TheVariants as side
use Rattle.pyd_ir.specs.declared.work.Frame.{Frame}
use Rattle.pyd_ir.specs.declared.work.Frame.TheVariants.{After}
use Rattle.pyd_ir.specs.declared.work.Work.{Work}
use Rattle.pyd_ir.specs.declared.work.Work.TheVariants.{Op, Cond, While, For}
use Rattle.pyd_scope.specs.Numbering.{Point, past_expression}
use Rattle.pyd_translate.specs.Making.{Context, pure, emit, port, ◌>>>◌}
use Rattle.pyd_translate.specs.Slots.{set_slot, slot_ports}
use Rattle.pyd_translate.specs.Expressions.{name_operand, operator}
use Rattle.pyd_translate.specs.Statements.{done, Exit, Break, Continue, Onward, Sequel, set_members, bind_targets, ported, with_rest, in_line, slots_at, header, assigned, augmented, message_unfolds, asserted, returned, headed_by, if_unfolds, what_unfolds}
use Rattle.pyd_translate.specs.Counts.{what_items, arm_items, block_items, stmt_items, items}
use Rattle.pyd_translate.proofs.FewNodes.{Few, then_few, done_few, few_more, pure_few, emit_few, stop_few}
use Rattle.pyd_translate.proofs.FewInNames.{operator_few, choose_few, name_few}
use Rattle.pyd_translate.proofs.FewInExpressions.{expression_few}

-- what goes on has so many nodes at most
abbrev pub GoesFew : ℕ → Onward → Type 0
GoesFew n onward = (env : List Arg) → Few n 0 (onward env)

-- so has what stands behind a statement, in whatever way it is left
pub record IsFewSequel (n : ℕ) (sequel : Sequel) : Type 0 where
  pub leave : (exit : Exit) → GoesFew n (sequel.leave exit)
  pub next : GoesFew n sequel.next

-- the items of one level of what a statement does
abbrev pub items_level : What-F What Arm Block Stmt → What-F ℕ ℕ ℕ ℕ
items_level y =
    map-What What Arm Block Stmt ℕ ℕ ℕ ℕ
    (fold-What ℕ ℕ ℕ ℕ what_items arm_items block_items stmt_items)
    (fold-Arm ℕ ℕ ℕ ℕ what_items arm_items block_items stmt_items)
    (fold-Block ℕ ℕ ℕ ℕ what_items arm_items block_items stmt_items) items y

-- the items of a statement, by its first level
pub items_out : (s : Stmt) → items s ≡ 1 + what_items (items_level (out-What s.what))
unfolding items
items_out s =
    fold_out-Stmt ℕ ℕ ℕ ℕ what_items arm_items block_items stmt_items s
    ∙ ap (λ n. 1 + n) (fold_out-What ℕ ℕ ℕ ℕ what_items arm_items block_items stmt_items s.what)

-- an arm has an item more than its test at least
arm_least : (a : Arm)
    → 1 + expression_parts (out-Arm a).test
    ≤ fold-Arm ℕ ℕ ℕ ℕ what_items arm_items block_items stmt_items a
arm_least a =
    let is = fold_out-Arm ℕ ℕ ℕ ℕ what_items arm_items block_items stmt_items a in
    omega (arith, is)

-- targets that are bound
targets_few : (slots : List (List ℕ)) (tuple : Bool) (names : List (List ℕ)) (at : Context)
    (a : Arg) → Few 1 0 (bind_targets slots tuple names at a)
targets_few slots false [] at a = stop_few (List Arg) at (Raised ValueError at.line)
targets_few slots false (name ∷ []) at a =
    pure_few 1 0 (set_slot slots at.env name a) (omega arith)
targets_few slots false (name ∷ other ∷ names) at a =
    stop_few (List Arg) at (Raised ValueError at.line)
targets_few slots true names at a =
    then_few 1 0 0 0 1 0 (emit at (Op (code.Unpack (length names)) (a ∷ [])))
    (λ id. pure (set_members slots at.env id 0 names))
    (emit_few at (Op (code.Unpack (length names)) (a ∷ [])))
    (λ id. pure_few 0 0 (set_members slots at.env id 0 names) (omega arith))
    (omega arith) (omega arith)

-- a composite that has taken the rest with it
pub ported_few : (slots : List (List ℕ)) (at : Context) (work : Work)
    → Few 1 0 (emit at work >>> ported slots)
ported_few slots at work =
    then_few 1 0 0 0 1 0 (emit at work) (ported slots) (emit_few at work)
    (λ id. pure_few 0 0 (done (slot_ports id 0 slots) (From (port id (length slots)))) (omega arith))
    (omega arith) (omega arith)

-- a composite made from its rest
rest_few : (slots : List (List ℕ)) (early : Bool) (k : ℕ) (work : List Frame → Work)
    (at : Context) (sequel : Sequel) (n : ℕ) → IsFewSequel n sequel
    → Few (1 + n) 0 (with_rest slots early k work at sequel)
rest_few slots true k work at sequel n is =
    few_more 1 0 (1 + n) 0 (with_rest slots true k work at sequel)
    (ported_few slots at (work (After k ∷ sequel.rest))) (omega arith)
rest_few slots false k work at sequel n is =
    then_few 1 0 n 0 (1 + n) 0 (emit at (work [])) (λ id. sequel.next (slot_ports id 0 slots))
    (emit_few at (work [])) (λ id. is.next (slot_ports id 0 slots)) (omega arith) (omega arith)

module _ (file : File) where
  -- the first expression of a statement
  header_few : (e : Expr) (p : Point) (at : Context)
      → Few (3 * expression_parts e) 1 (header file e p at)
  header_few e p at = expression_few file e p.expression at

  -- the slots after an augmented assignment
  augmented_few : (name : List ℕ) (op : BinOp) (e : Expr) (p : Point) (at : Context)
      → Few (3 * (1 + expression_parts e)) 0 (augmented file name op e p at)
  augmented_few name op e p at =
      then_few 1 0 (3 * expression_parts e) 0 (3 * (1 + expression_parts e)) 0
      (name_operand file name at)
      (λ a. header file e p at
      >>> (λ b. operator (code.Binary op) (a ∷ b ∷ []) at
      >>> (λ c. pure (set_slot (slots_at file at) at.env name c))))
      (name_few file name at)
      (λ a. then_few (3 * expression_parts e) 1 1 0 (3 * expression_parts e) 0 (header file e p at)
      (λ b. operator (code.Binary op) (a ∷ b ∷ []) at
      >>> (λ c. pure (set_slot (slots_at file at) at.env name c)))
      (header_few e p at)
      (λ b. then_few 1 0 0 0 1 0 (operator (code.Binary op) (a ∷ b ∷ []) at)
      (λ c. pure (set_slot (slots_at file at) at.env name c))
      (operator_few (code.Binary op) (a ∷ b ∷ []) at)
      (λ c. pure_few 0 0 (set_slot (slots_at file at) at.env name c) (omega arith))
      (omega arith) (omega arith))
      (omega arith) (omega arith))
      (omega arith) (omega arith)

  -- the message of an `assert`
  message_few : (message : Option Expr) (n : ℕ) (at : Context) (test : Arg)
      → Few 1 0 (message_unfolds file message n at test)
  message_few None n at test = pure_few 1 0 test (omega arith)
  message_few (Some e) n at test =
      choose_few at test (side.Arg (Known value.None)) (side.Expr n)

  -- an `assert`
  asserted_few : (message : Option Expr) (n : ℕ) (at : Context) (test : Arg)
      → Few 2 0 (asserted file message n at test)
  asserted_few message n at test =
      then_few 1 0 1 0 2 0 (message_unfolds file message n at test)
      (λ m. operator code.Assert (test ∷ []) at >>> (λ v. pure at.env))
      (message_few message n at test)
      (λ m. then_few 1 0 0 0 1 0 (operator code.Assert (test ∷ []) at) (λ v. pure at.env)
      (operator_few code.Assert (test ∷ []) at) (λ v. pure_few 0 0 at.env (omega arith))
      (omega arith) (omega arith))
      (omega arith) (omega arith)

  -- a `return`
  returned_few : (e : Option Expr) (p : Point) (at : Context)
      → Few (3 * maybe_parts e) 0 (returned file e p at)
  returned_few None p at = pure_few 0 0 (done at.env (Known value.None)) (omega arith)
  returned_few (Some e) p at =
      done_few (3 * expression_parts e) 1 0 0 (3 * expression_parts e) 0 at.env (header file e p at)
      (λ a. pure (done at.env a)) (header_few e p at)
      (λ a. pure_few 0 0 (done at.env a) (omega arith)) (omega arith) (omega arith)

  -- the header of a compound statement, and its composite
  headed_few : (e : Expr) (work : Arg → List Frame → Work) (early : Bool) (p : Point)
      (at : Context) (sequel : Sequel) (n : ℕ) → IsFewSequel n sequel
      → Few (3 * expression_parts e + n) 0 (headed_by file e work early p at sequel)
  headed_few e work early p at sequel n is =
      done_few (3 * expression_parts e) 1 (1 + n) 0 (3 * expression_parts e + n) 0 at.env
      (header file e p at) (λ a. with_rest (slots_at file at) early p.statement (work a) at sequel)
      (header_few e p at)
      (λ a. rest_few (slots_at file at) early p.statement (work a) at sequel n is)
      (omega arith) (omega arith)

  -- an `if`
  if_statement_few : (arms : List Arm) (early : Bool) (p : Point) (at : Context) (sequel : Sequel)
      (n : ℕ) → IsFewSequel n sequel
      → Few (3 * (1 + total (map (fold-Arm ℕ ℕ ℕ ℕ what_items arm_items block_items stmt_items) arms))
      + n) 0 (if_unfolds file arms early p at sequel)
  if_statement_few [] early p at sequel n is =
      few_more (1 + n) 0 (3 * (1 + 0) + n) 0 (if_unfolds file [] early p at sequel)
      (rest_few (slots_at file at) early p.statement
      (λ rest. Cond (Known (Truth false)) p.statement 0 rest at.env) at sequel n is) (omega arith)
  if_statement_few (a ∷ arms) early p at sequel n is =
      let least = arm_least a in
      few_more (3 * expression_parts (out-Arm a).test + n) 0
      (3 * (1 + (fold-Arm ℕ ℕ ℕ ℕ what_items arm_items block_items stmt_items a
      + total (map (fold-Arm ℕ ℕ ℕ ℕ what_items arm_items block_items stmt_items) arms))) + n) 0
      (if_unfolds file (a ∷ arms) early p at sequel)
      (headed_few (out-Arm a).test (λ t rest. Cond t p.statement 0 rest at.env) early p
      (in_line (out-Arm a).line at) sequel n is) (omega (arith, least))

  -- a statement, and what goes on behind it
  pub what_few : (y : What-F What Arm Block Stmt) (early : Bool) (p : Point) (at : Context)
      (sequel : Sequel) (n : ℕ) → IsFewSequel n sequel
      → Few (3 * (1 + what_items (items_level y)) + n) 0 (what_unfolds file y early p at sequel)
  what_few (What-F.Expr e) early p at sequel n is =
      done_few (3 * expression_parts e) 1 n 0 (3 * (1 + expression_parts e) + n) 0 at.env
      (header file e p at) (λ a. sequel.next at.env) (header_few e p at) (λ a. is.next at.env)
      (omega arith) (omega arith)
  what_few (What-F.Assign targets e) early p at sequel n is =
      done_few (3 * expression_parts e) 0 n 0 (3 * (1 + expression_parts e) + n) 0 at.env
      (header file e p at >>> assigned file targets at) sequel.next
      (then_few (3 * expression_parts e) 1 1 0 (3 * expression_parts e) 0 (header file e p at)
      (assigned file targets at) (header_few e p at)
      (λ a. targets_few (slots_at file at) targets.tuple targets.names at a)
      (omega arith) (omega arith))
      is.next (omega arith) (omega arith)
  what_few (What-F.Aug name op e) early p at sequel n is =
      done_few (3 * (1 + expression_parts e)) 0 n 0 (3 * (1 + expression_parts e) + n) 0 at.env
      (augmented file name op e p at) sequel.next (augmented_few name op e p at) is.next
      (omega arith) (omega arith)
  what_few (What-F.If arms None) early p at sequel n is =
      few_more
      (3 * (1 + total (map (fold-Arm ℕ ℕ ℕ ℕ what_items arm_items block_items stmt_items) arms)) + n)
      0
      (3 * (1 + (total (map (fold-Arm ℕ ℕ ℕ ℕ what_items arm_items block_items stmt_items) arms) + 0))
      + n) 0
      (if_unfolds file arms early p at sequel) (if_statement_few arms early p at sequel n is)
      (omega arith)
  what_few (What-F.If arms (Some b)) early p at sequel n is =
      few_more
      (3 * (1 + total (map (fold-Arm ℕ ℕ ℕ ℕ what_items arm_items block_items stmt_items) arms)) + n)
      0
      (3 * (1 + (total (map (fold-Arm ℕ ℕ ℕ ℕ what_items arm_items block_items stmt_items) arms)
      + fold-Block ℕ ℕ ℕ ℕ what_items arm_items block_items stmt_items b)) + n) 0
      (if_unfolds file arms early p at sequel) (if_statement_few arms early p at sequel n is)
      (omega arith)
  what_few (What-F.While test body) early p at sequel n is =
      few_more (3 * expression_parts test + n) 0
      (3 * (1 + (expression_parts test
      + fold-Block ℕ ℕ ℕ ℕ what_items arm_items block_items stmt_items body)) + n) 0
      (headed_by file test (λ t rest. While t p.statement 0 rest at.env) early p at sequel)
      (headed_few test (λ t rest. While t p.statement 0 rest at.env) early p at sequel n is)
      (omega arith)
  what_few (What-F.For targets e body) early p at sequel n is =
      few_more (3 * expression_parts e + n) 0
      (3 * (1 + (expression_parts e
      + fold-Block ℕ ℕ ℕ ℕ what_items arm_items block_items stmt_items body)) + n) 0
      (headed_by file e (λ over rest. For over p.statement 0 rest at.env) early p at sequel)
      (headed_few e (λ over rest. For over p.statement 0 rest at.env) early p at sequel n is)
      (omega arith)
  what_few (What-F.Return e) early p at sequel n is =
      few_more (3 * maybe_parts e) 0 (3 * (1 + maybe_parts e) + n) 0 (returned file e p at)
      (returned_few e p at) (omega arith)
  what_few What-F.Break early p at sequel n is =
      few_more n 0 (3 + n) 0 (sequel.leave Break at.env) (is.leave Break at.env) (omega arith)
  what_few What-F.Continue early p at sequel n is =
      few_more n 0 (3 + n) 0 (sequel.leave Continue at.env) (is.leave Continue at.env) (omega arith)
  what_few What-F.Pass early p at sequel n is =
      few_more n 0 (3 + n) 0 (sequel.next at.env) (is.next at.env) (omega arith)
  what_few (What-F.Assert test message) early p at sequel n is =
      done_few (3 * expression_parts test + 1) 0 n 0
      (3 * (1 + (expression_parts test + maybe_parts message)) + n) 0 at.env
      (header file test p at >>> asserted file message (past_expression test p).expression at)
      sequel.next
      (then_few (3 * expression_parts test) 1 2 0 (3 * expression_parts test + 1) 0
      (header file test p at) (asserted file message (past_expression test p).expression at)
      (header_few test p at)
      (λ t. asserted_few message (past_expression test p).expression at t)
      (omega arith) (omega arith))
      is.next (omega arith) (omega arith)
