-- The nodes of one statement are numbered in order, where those of what goes on behind it are.
use Rattle.std.proofs.Common.{◌≡◌, ◌≤◌, ℕ, suc, List, [], ◌∷◌, ◌++◌, length, Option, Some, None, Bool, true, false, if◌then◌else◌, refl, arith}
use Rattle.pyd_value.specs.declared.value.Value.{Bool as Truth}
use Rattle.pyd_value.specs.declared.value.Value.TheVariants as value
use Rattle.pyd_value.specs.declared.fault.Fault.TheVariants.{Raised}
use Rattle.pyd_value.specs.declared.fault.Kind.TheVariants.{ValueError}
use Rattle.pyd_value.specs.declared.operator.BinOp.{BinOp}
use Rattle.pyd_tree.specs.declared.expression.Expr.{Expr}
use Rattle.pyd_tree.specs.declared.statement.What.{What}
use Rattle.pyd_tree.specs.declared.statement.What.TheOpen.{What-F}
use Rattle.pyd_tree.specs.declared.statement.Arm.{Arm, out-Arm}
use Rattle.pyd_tree.specs.declared.statement.Block.{Block}
use Rattle.pyd_tree.specs.declared.statement.Stmt.{Stmt}
use Rattle.pyd_tree.specs.declared.statement.Targets.{Targets}
use Rattle.pyd_tree.specs.declared.file.File.{File}
use Rattle.pyd_names.specs.Binding.{same_name}
use Rattle.pyd_ir.specs.declared.arg.Arg.{Arg}
use Rattle.pyd_ir.specs.declared.arg.Arg.TheVariants.{Known, From}
use Rattle.pyd_ir.specs.declared.code.OpCode.TheVariants as code
use Rattle.pyd_ir.specs.declared.work.Side.TheVariants as side
use Rattle.pyd_ir.specs.declared.work.Frame.{Frame}
use Rattle.pyd_ir.specs.declared.work.Frame.TheVariants.{After}
use Rattle.pyd_ir.specs.declared.work.Work.{Work}
use Rattle.pyd_ir.specs.declared.work.Work.TheVariants.{Op, Cond, While, For}
use Rattle.pyd_ir.specs.Arguments.{arguments, rest_arguments}
use Rattle.pyd_translate.specs.Making.{Making, Context, pure, emit, port, ◌>>>◌}
use Rattle.pyd_scope.specs.Numbering.{Point, past_expression}
use Rattle.pyd_translate.specs.Slots.{set_slot, slot_ports}
use Rattle.pyd_translate.specs.Expressions.{name_operand, operator}
use Rattle.pyd_translate.specs.Statements.{done, then_done, Exit, Break, Continue, Onward, Sequel, set_members, bind_targets, ported, with_rest, in_line, slots_at, header, assigned, augmented, message_unfolds, asserted, returned, headed_by, if_unfolds, what_unfolds}
use Rattle.pyd_translate.specs.Naming.{Naming}
use Rattle.pyd_translate.specs.SlotPorts.{has_slots}
use Rattle.pyd_translate.proofs.Ordering.{IsIn, AreIn, in_up, are_in_up, are_below_both, Orders, IsLowDone, IsMade, IsOpened, then_orders, done_orders, pure_orders, pure_below, pure_are_below, emit_orders, opened_orders, stop_orders}
use Rattle.pyd_translate.proofs.ExpressionOrder.{operator_orders, choose_orders}
use Rattle.pyd_translate.proofs.UnfoldedOrder.{name_orders, expression_orders}

module _ (naming : Naming) where
  -- what goes on from slots below a number that is not below a least one is in order
  abbrev pub GoesOn : ℕ → Onward → Type 0
  GoesOn least onward = (n : ℕ) (env : List Arg) → least ≤ n → AreIn naming n env
      → Orders naming (IsLowDone naming) n (onward env)

  -- so does what stands behind a statement
  pub record IsSequel (least : ℕ) (sequel : Sequel) : Type 0 where
    pub rest : AreIn naming least (rest_arguments sequel.rest)
    pub leave : (exit : Exit) → GoesOn least (sequel.leave exit)
    pub next : GoesOn least sequel.next

  -- the slots with one of two
  slots_if : (n : ℕ) (which : Bool) (xs ys : List Arg) → AreIn naming n xs → AreIn naming n ys
      → AreIn naming n (if which then xs else ys)
  slots_if n true xs ys p q = p
  slots_if n false xs ys p q = q

  -- a slot that takes an argument
  pub set_below : (n : ℕ) (slots : List (List ℕ)) (env : List Arg) (name : List ℕ) (b : Arg)
      → AreIn naming n env → IsIn naming n b → AreIn naming n (set_slot slots env name b)
  set_below n [] env name b p q = p
  set_below n (slot ∷ slots) [] name b p q = tt
  set_below n (slot ∷ slots) (a ∷ env) name b p q =
      slots_if n (same_name name slot) (b ∷ env) (a ∷ set_slot slots env name b) (q, p.1)
      (p.0, set_below n slots env name b p.1 q)

  -- the slot ports of a node
  pub ports_below : {A : Type 0} (n id p : ℕ) (slots : List A) → IsOpened naming n id
      → AreIn naming n (slot_ports id p slots)
  ports_below n id p [] made = tt
  ports_below n id p (slot ∷ slots) made = (made, ports_below n id (suc p) slots made)

  -- the members of what a node unpacks
  members_below : (n : ℕ) (slots : List (List ℕ)) (env : List Arg) (id p : ℕ)
      (names : List (List ℕ)) → AreIn naming n env → naming.may n id ≡ true
      → AreIn naming n (set_members slots env id p names)
  members_below n slots env id p [] below made = below
  members_below n slots env id p (name ∷ names) below made =
      members_below n slots (set_slot slots env name (From (port id p))) id (suc p) names
      (set_below n slots env name (From (port id p)) below made) made

  -- an end with these arguments
  pub finished_orders : (least : ℕ) (env : List Arg) (a : Arg) → AreIn naming least env
      → IsIn naming least a → Orders naming (IsLowDone naming) least (pure (done env a))
  finished_orders least env a p q =
      pure_orders naming (IsLowDone naming) least (done env a)
      (λ ids le. (are_in_up naming least ids env le p, in_up naming least ids a le q))

  -- targets that are bound
  pub targets_order : (slots : List (List ℕ)) (tuple : Bool) (names : List (List ℕ)) (at : Context)
      (a : Arg) (least : ℕ) → AreIn naming least at.env → IsIn naming least a
      → Orders naming (AreIn naming) least (bind_targets slots tuple names at a)
  targets_order slots false [] at a least env low =
      stop_orders naming (AreIn naming) least at (Raised ValueError at.line)
  targets_order slots false (name ∷ []) at a least env low =
      pure_are_below naming least (set_slot slots at.env name a) (set_below least slots at.env name a env low)
  targets_order slots false (name ∷ other ∷ names) at a least env low =
      stop_orders naming (AreIn naming) least at (Raised ValueError at.line)
  targets_order slots true names at a least env low =
      then_orders naming (IsMade naming) (AreIn naming) least (emit at (Op (code.Unpack (length names)) (a ∷ [])))
      (λ id. pure (set_members slots at.env id 0 names))
      (emit_orders naming least at (Op (code.Unpack (length names)) (a ∷ [])) (low, tt))
      (λ id next le made. pure_are_below naming next (set_members slots at.env id 0 names)
      (members_below next slots at.env id 0 names (are_in_up naming least next at.env le env) made))

  -- a composite that has taken the rest with it
  pub ported_orders : (slots : List (List ℕ)) (at : Context) (work : Work) (least : ℕ)
      → AreIn naming least (arguments work) → has_slots work ≡ true
      → Orders naming (IsLowDone naming) least (emit at work >>> ported slots)
  ported_orders slots at work least below has =
      then_orders naming (IsOpened naming) (IsLowDone naming) least (emit at work) (ported slots)
      (opened_orders naming least at work below has)
      (λ id next le made. finished_orders next (slot_ports id 0 slots)
      (From (port id (length slots))) (ports_below next id 0 slots made) made.0)

  -- the works of a composite name what is below a number, where their rests do, and have slot ports
  abbrev IsLowWork : ℕ → (List Frame → Work) → Type 0
  IsLowWork n work =
      (rest : List Frame) → AreIn naming n (rest_arguments rest)
      → AreIn naming n (arguments (work rest)) × (has_slots (work rest) ≡ true)

  -- a composite made from its rest
  rest_orders : (slots : List (List ℕ)) (early : Bool) (k : ℕ) (work : List Frame → Work)
      (at : Context) (sequel : Sequel) (least n : ℕ) → IsSequel least sequel → least ≤ n
      → IsLowWork n work → Orders naming (IsLowDone naming) n (with_rest slots early k work at sequel)
  rest_orders slots true k work at sequel least n is le low =
      let has =
      low (After k ∷ sequel.rest) (are_in_up naming least n (rest_arguments sequel.rest) le is.rest) in
      ported_orders slots at (work (After k ∷ sequel.rest)) n has.0 has.1
  rest_orders slots false k work at sequel least n is le low =
      then_orders naming (IsOpened naming) (IsLowDone naming) n (emit at (work [])) (λ id. sequel.next (slot_ports id 0 slots))
      (opened_orders naming n at (work []) (low [] tt).0 (low [] tt).1)
      (λ id next more made. is.next next (slot_ports id 0 slots) (omega arith)
      (ports_below next id 0 slots made))

  -- a composite's control, its rest and its slots
  composite_below : (n : ℕ) (control : Arg) (rest : List Frame) (env : List Arg) → IsIn naming n control
      → AreIn naming n (rest_arguments rest) → AreIn naming n env
      → AreIn naming n (control ∷ (rest_arguments rest ++ env))
  composite_below n control rest env p q r = (p, are_below_both naming n (rest_arguments rest) env q r)

  module _ (file : File) where
    -- the first expression of a statement
    header_orders : (e : Expr) (p : Point) (at : Context) (least : ℕ) → AreIn naming least at.env
        → Orders naming (IsIn naming) least (header file e p at)
    header_orders e p at least env = expression_orders naming file e p.expression at least env

    -- the slots after an assignment
    assigned_orders : (targets : Targets) (e : Expr) (p : Point) (at : Context) (least : ℕ)
        → AreIn naming least at.env
        → Orders naming (AreIn naming) least (header file e p at >>> assigned file targets at)
    assigned_orders targets e p at least env =
        then_orders naming (IsIn naming) (AreIn naming) least (header file e p at) (assigned file targets at)
        (header_orders e p at least env)
        (λ a next le low. targets_order (slots_at file at) targets.tuple targets.names at a next
        (are_in_up naming least next at.env le env) low)

    -- the slots after an augmented assignment
    augmented_orders : (name : List ℕ) (op : BinOp) (e : Expr) (p : Point) (at : Context)
        (least : ℕ) → AreIn naming least at.env
        → Orders naming (AreIn naming) least (augmented file name op e p at)
    augmented_orders name op e p at least env =
        then_orders naming (IsIn naming) (AreIn naming) least (name_operand file name at)
        (λ a. header file e p at
        >>> (λ b. operator (code.Binary op) (a ∷ b ∷ []) at
        >>> (λ c. pure (set_slot (slots_at file at) at.env name c))))
        (name_orders naming file name at least env)
        (λ a next le low. then_orders naming (IsIn naming) (AreIn naming) next (header file e p at)
        (λ b. operator (code.Binary op) (a ∷ b ∷ []) at
        >>> (λ c. pure (set_slot (slots_at file at) at.env name c)))
        (header_orders e p at next (are_in_up naming least next at.env le env))
        (λ b last more r. then_orders naming (IsIn naming) (AreIn naming) last (operator (code.Binary op) (a ∷ b ∷ []) at)
        (λ c. pure (set_slot (slots_at file at) at.env name c))
        (operator_orders naming last (code.Binary op) (a ∷ b ∷ []) at (in_up naming next last a more low, (r, tt)))
        (λ c end up s. pure_are_below naming end (set_slot (slots_at file at) at.env name c)
        (set_below end (slots_at file at) at.env name c
        (are_in_up naming least end at.env (omega arith) env) s))))

    -- the message of an `assert`
    message_orders : (message : Option Expr) (n : ℕ) (at : Context) (test : Arg) (least : ℕ)
        → AreIn naming least at.env → IsIn naming least test
        → Orders naming (IsIn naming) least (message_unfolds file message n at test)
    message_orders None n at test least env low = pure_below naming least test low
    message_orders (Some e) n at test least env low =
        choose_orders naming least at test (side.Arg (Known value.None)) (side.Expr n) env low (tt, tt) tt

    -- an `assert`
    asserted_orders : (message : Option Expr) (n : ℕ) (at : Context) (test : Arg) (least : ℕ)
        → AreIn naming least at.env → IsIn naming least test
        → Orders naming (AreIn naming) least (asserted file message n at test)
    asserted_orders message n at test least env low =
        then_orders naming (IsIn naming) (AreIn naming) least (message_unfolds file message n at test)
        (λ m. operator code.Assert (test ∷ []) at >>> (λ v. pure at.env))
        (message_orders message n at test least env low)
        (λ m next le q. then_orders naming (IsIn naming) (AreIn naming) next (operator code.Assert (test ∷ []) at)
        (λ v. pure at.env)
        (operator_orders naming next code.Assert (test ∷ []) at (in_up naming least next test le low, tt))
        (λ v last more r. pure_are_below naming last at.env
        (are_in_up naming least last at.env (omega arith) env)))

    -- a `return`
    returned_orders : (e : Option Expr) (p : Point) (at : Context) (least : ℕ)
        → AreIn naming least at.env → Orders naming (IsLowDone naming) least (returned file e p at)
    returned_orders None p at least env = finished_orders least at.env (Known value.None) env tt
    returned_orders (Some e) p at least env =
        done_orders naming (IsIn naming) least at.env (header file e p at) (λ a. pure (done at.env a)) env
        (header_orders e p at least env)
        (λ a next le low. finished_orders next at.env a (are_in_up naming least next at.env le env) low)

    -- what binds slots, and then what goes on
    binding_orders : (at : Context) (u : Making (List Arg)) (sequel : Sequel) (least n : ℕ)
        → IsSequel least sequel → least ≤ n → AreIn naming n at.env → Orders naming (AreIn naming) n u
        → Orders naming (IsLowDone naming) n (then_done at.env u sequel.next)
    binding_orders at u sequel least n is le env p =
        done_orders naming (AreIn naming) n at.env u sequel.next env p
        (λ slots next more low. is.next next slots (omega arith) low)

    -- the header of a compound statement, and its composite
    headed_orders : (e : Expr) (work : Arg → List Frame → Work) (early : Bool) (p : Point)
        (at : Context) (sequel : Sequel) (least n : ℕ) → IsSequel least sequel → least ≤ n
        → AreIn naming n at.env → ((a : Arg) (next : ℕ) → n ≤ next → IsIn naming next a
        → IsLowWork next (work a))
        → Orders naming (IsLowDone naming) n (headed_by file e work early p at sequel)
    headed_orders e work early p at sequel least n is le env low =
        done_orders naming (IsIn naming) n at.env (header file e p at)
        (λ a. with_rest (slots_at file at) early p.statement (work a) at sequel) env
        (header_orders e p at n env)
        (λ a next more r. rest_orders (slots_at file at) early p.statement (work a) at sequel least
        next is (omega arith) (low a next more r))

    -- an `if`
    if_order : (arms : List Arm) (early : Bool) (p : Point) (at : Context) (sequel : Sequel)
        (least n : ℕ) → IsSequel least sequel → least ≤ n → AreIn naming n at.env
        → Orders naming (IsLowDone naming) n (if_unfolds file arms early p at sequel)
    if_order [] early p at sequel least n is le env =
        rest_orders (slots_at file at) early p.statement
        (λ rest. Cond (Known (Truth false)) p.statement 0 rest at.env) at sequel least n is le
        (λ rest low. (composite_below n (Known (Truth false)) rest at.env tt low env, refl))
    if_order (a ∷ arms) early p at sequel least n is le env =
        headed_orders (out-Arm a).test (λ t rest. Cond t p.statement 0 rest at.env) early p
        (in_line (out-Arm a).line at) sequel least n is le env
        (λ t next more r rest low. (
          composite_below next t rest at.env r low (are_in_up naming n next at.env more env),
          refl,
        ))

    -- a statement
    pub what_order : (y : What-F What Arm Block Stmt) (early : Bool) (p : Point) (at : Context)
        (sequel : Sequel) (least n : ℕ) → IsSequel least sequel → least ≤ n → AreIn naming n at.env
        → Orders naming (IsLowDone naming) n (what_unfolds file y early p at sequel)
    what_order (What-F.Expr e) early p at sequel least n is le env =
        done_orders naming (IsIn naming) n at.env (header file e p at) (λ a. sequel.next at.env) env
        (header_orders e p at n env)
        (λ a next more r. is.next next at.env (omega arith) (are_in_up naming n next at.env more env))
    what_order (What-F.Assign targets e) early p at sequel least n is le env =
        binding_orders at (header file e p at >>> assigned file targets at) sequel least n is le env
        (assigned_orders targets e p at n env)
    what_order (What-F.Aug name op e) early p at sequel least n is le env =
        binding_orders at (augmented file name op e p at) sequel least n is le env
        (augmented_orders name op e p at n env)
    what_order (What-F.If arms otherwise) early p at sequel least n is le env =
        if_order arms early p at sequel least n is le env
    what_order (What-F.While test body) early p at sequel least n is le env =
        headed_orders test (λ t rest. While t p.statement 0 rest at.env) early p at sequel least n is
        le env
        (λ t next more r rest low. (
          composite_below next t rest at.env r low (are_in_up naming n next at.env more env),
          refl,
        ))
    what_order (What-F.For targets e body) early p at sequel least n is le env =
        headed_orders e (λ over rest. For over p.statement 0 rest at.env) early p at sequel least n is
        le env
        (λ over next more r rest low. (
          composite_below next over rest at.env r low (are_in_up naming n next at.env more env),
          refl,
        ))
    what_order (What-F.Return e) early p at sequel least n is le env = returned_orders e p at n env
    what_order What-F.Break early p at sequel least n is le env = is.leave Break n at.env le env
    what_order What-F.Continue early p at sequel least n is le env =
        is.leave Continue n at.env le env
    what_order What-F.Pass early p at sequel least n is le env = is.next n at.env le env
    what_order (What-F.Assert test message) early p at sequel least n is le env =
        binding_orders at
        (header file test p at >>> asserted file message (past_expression test p).expression at) sequel
        least n is le env
        (then_orders naming (IsIn naming) (AreIn naming) n (header file test p at)
        (asserted file message (past_expression test p).expression at) (header_orders test p at n env)
        (λ t next more r. asserted_orders message (past_expression test p).expression at t next
        (are_in_up naming n next at.env more env) r))
