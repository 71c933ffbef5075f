-- The nodes of expressions are numbered in order.
use Rattle.std.proofs.Common.{◌≡◌, ◌≤◌, ℕ, suc, ◌+◌, List, [], ◌∷◌, ◌++◌, length, nat_eq, Option, Some, None, Bool, true, false, if◌then◌else◌, refl, sym, subst}
use Rattle.pyd_value.specs.declared.value.Value.{Bool as Truth}
use Rattle.pyd_value.specs.declared.fault.Fault.TheVariants.{Raised}
use Rattle.pyd_value.specs.declared.fault.Kind.TheVariants.{NameError, TypeError}
use Rattle.pyd_value.specs.declared.operator.BinOp.{BinOp}
use Rattle.pyd_value.specs.declared.operator.CmpOp.{CmpOp}
use Rattle.pyd_value.specs.declared.operator.Builtin.{Builtin}
use Rattle.pyd_value.specs.declared.operator.Builtin.TheVariants as builtin
use Rattle.pyd_tree.specs.declared.file.Func.{Func}
use Rattle.pyd_names.specs.Binding.{same_name}
use Rattle.pyd_names.specs.Resolution.{Resolution}
use Rattle.pyd_names.specs.Resolution as resolution
use Rattle.pyd_meaning.specs.Setting.{unbound_local}
use Rattle.pyd_scope.specs.Rules.{is_functional}
use Rattle.pyd_ir.specs.declared.arg.Arg.{Arg}
use Rattle.pyd_ir.specs.declared.arg.Arg.TheVariants.{Known, From, Slot, Unbound}
use Rattle.pyd_ir.specs.declared.code.OpCode.{OpCode}
use Rattle.pyd_ir.specs.declared.code.OpCode.TheVariants as code
use Rattle.pyd_ir.specs.declared.work.Side.{Side}
use Rattle.pyd_ir.specs.declared.work.Side.TheVariants as side
use Rattle.pyd_ir.specs.declared.work.Work.TheVariants.{Op, Call, Run, Pick, Enter, Read}
use Rattle.pyd_ir.specs.Arguments.{arguments, side_arguments}
use Rattle.pyd_translate.specs.Making.{Making, Context, pure, stop_by, emit_value, ◌>>>◌}
use Rattle.pyd_translate.specs.Slots.{arg_of, operand, operand_as}
use Rattle.pyd_translate.specs.Expressions.{Unfolded, UnfoldedSuffix, operator, each, bound, chained, suffixed, choose, members_from, conjunction, disjunction, compared, builtin_work, is_unfolded, function_work, function_call, value_call}
use Rattle.pyd_translate.specs.Naming.{Naming}
use Rattle.pyd_translate.proofs.Induction.{Each, Maybe}
use Rattle.pyd_translate.proofs.Ordering.{IsIn, AreIn, in_up, are_in_up, are_below_both, Orders, then_orders, pure_below, pure_are_below, value_orders, stop_orders, if_orders}

module _ (naming : Naming) where
  -- an expression's nodes are in order, wherever they are made
  abbrev pub IsOrdered : Unfolded → Type 0
  IsOrdered u = (k : ℕ) (at : Context) (least : ℕ) → AreIn naming least at.env
      → Orders naming (IsIn naming) least (u.build k at)

  -- so are those of brackets
  abbrev pub IsSuffixOrdered : UnfoldedSuffix → Type 0
  IsSuffixOrdered u = (k : ℕ) (at : Context) (a : Arg) (least : ℕ) → AreIn naming least at.env
      → IsIn naming least a → Orders naming (IsIn naming) least (u.build k at a)

  -- one of two arguments
  below_if : (n : ℕ) (which : Bool) (a b : Arg) → IsIn naming n a → IsIn naming n b
      → IsIn naming n (if which then a else b)
  below_if n true a b p q = p
  below_if n false a b p q = q

  -- the argument of a name's slot
  pub slot_below : (n : ℕ) (slots : List (List ℕ)) (env : List Arg) (name : List ℕ)
      → AreIn naming n env → IsIn naming n (arg_of slots env name)
  slot_below n [] env name p = tt
  slot_below n (slot ∷ slots) [] name p = tt
  slot_below n (slot ∷ slots) (a ∷ env) name p =
      below_if n (same_name name slot) a (arg_of slots env name) p.0 (slot_below n slots env name p.1)

  -- an operator's node
  pub operator_orders : (least : ℕ) (op : OpCode) (args : List Arg) (at : Context)
      → AreIn naming least args → Orders naming (IsIn naming) least (operator op args at)
  operator_orders least op args at below = value_orders naming least at (Op op args) below

  -- each in turn
  pub each_orders : (us : List Unfolded) → Each IsOrdered us → (k : ℕ) (at : Context) (least : ℕ)
      → AreIn naming least at.env → Orders naming (AreIn naming) least (each us k at)
  unfolding each
  each_orders [] p k at least env = pure_are_below naming least [] tt
  each_orders (u ∷ us) p k at least env =
      then_orders naming (IsIn naming) (AreIn naming) least (u.build k at)
      (λ a. each us (k + u.count) at >>> (λ args. pure (a ∷ args)))
      (p.0 k at least env)
      (λ a next le b. then_orders naming (AreIn naming) (AreIn naming) next (each us (k + u.count) at)
      (λ args. pure (a ∷ args))
      (each_orders us p.1 (k + u.count) at next (are_in_up naming least next at.env le env))
      (λ args last more bs. pure_are_below naming last (a ∷ args) (in_up naming next last a more b, bs)))

  -- what may be missing
  pub bound_orders : (u : Option Unfolded) → Maybe IsOrdered u → (k : ℕ) (at : Context) (least : ℕ)
      → AreIn naming least at.env → Orders naming (AreIn naming) least (bound u k at)
  bound_orders None p k at least env = pure_are_below naming least [] tt
  bound_orders (Some u) p k at least env =
      then_orders naming (IsIn naming) (AreIn naming) least (u.build k at) (λ a. pure (a ∷ []))
      (p k at least env)
      (λ a next le b. pure_are_below naming next (a ∷ []) (b, tt))

  -- operators of one level
  pub chained_orders : (links : List (BinOp × Unfolded)) → Each (λ l. IsOrdered l.1) links
      → (k : ℕ) (at : Context) (a : Arg) (least : ℕ)
      → AreIn naming least at.env → IsIn naming least a → Orders naming (IsIn naming) least (chained links k at a)
  unfolding chained
  chained_orders [] p k at a least env low = pure_below naming least a low
  chained_orders (l ∷ links) p k at a least env low =
      then_orders naming (IsIn naming) (IsIn naming) least (l.1.build k at)
      (λ b. operator (code.Binary l.0) (a ∷ b ∷ []) at
      >>> (λ c. chained links (k + l.1.count) at c))
      (p.0 k at least env)
      (λ b next le q. then_orders naming (IsIn naming) (IsIn naming) next (operator (code.Binary l.0) (a ∷ b ∷ []) at)
      (λ c. chained links (k + l.1.count) at c)
      (operator_orders next (code.Binary l.0) (a ∷ b ∷ []) at (in_up naming least next a le low, (q, tt)))
      (λ c last more r. chained_orders links p.1 (k + l.1.count) at c last
      (are_in_up naming next last at.env more (are_in_up naming least next at.env le env)) r))

  -- what stands in brackets behind a value
  pub suffixed_orders : (us : List UnfoldedSuffix) → Each IsSuffixOrdered us
      → (k : ℕ) (at : Context) (a : Arg) (least : ℕ)
      → AreIn naming least at.env → IsIn naming least a → Orders naming (IsIn naming) least (suffixed us k at a)
  unfolding suffixed
  suffixed_orders [] p k at a least env low = pure_below naming least a low
  suffixed_orders (u ∷ us) p k at a least env low =
      then_orders naming (IsIn naming) (IsIn naming) least (u.build k at a) (λ v. suffixed us (k + u.count) at v)
      (p.0 k at a least env low)
      (λ v next le q. suffixed_orders us p.1 (k + u.count) at v next
      (are_in_up naming least next at.env le env) q)

  -- a choice between two sides
  pub choose_orders : (least : ℕ) (at : Context) (test : Arg) (first second : Side)
      → AreIn naming least at.env → IsIn naming least test → AreIn naming least (side_arguments first)
      → AreIn naming least (side_arguments second) → Orders naming (IsIn naming) least (choose at test first second)
  choose_orders least at test first second env low p q =
      value_orders naming least at (Pick test first second at.env) (
        low,
        are_below_both naming least (side_arguments first) (side_arguments second ++ at.env) p
            (are_below_both naming least (side_arguments second) at.env q env),
      )

  -- an `and` from a member on
  pub conjunction_orders : (whole m : ℕ) (us : List Unfolded) → Each IsOrdered us
      → (k : ℕ) (at : Context) (least : ℕ)
      → AreIn naming least at.env → Orders naming (IsIn naming) least (conjunction whole m us k at)
  unfolding conjunction
  conjunction_orders whole m [] p k at least env = pure_below naming least (Known (Truth true)) tt
  conjunction_orders whole m (u ∷ []) p k at least env = p.0 k at least env
  conjunction_orders whole m (u ∷ v ∷ us) p k at least env =
      then_orders naming (IsIn naming) (IsIn naming) least (u.build k at)
      (λ a. choose at a (members_from whole (suc m)) (side.Arg a))
      (p.0 k at least env)
      (λ a next le low. choose_orders next at a (members_from whole (suc m)) (side.Arg a)
      (are_in_up naming least next at.env le env) low (tt, tt) (low, tt))

  -- an `or` from a member on
  pub disjunction_orders : (whole m : ℕ) (us : List Unfolded) → Each IsOrdered us
      → (k : ℕ) (at : Context) (least : ℕ)
      → AreIn naming least at.env → Orders naming (IsIn naming) least (disjunction whole m us k at)
  unfolding disjunction
  disjunction_orders whole m [] p k at least env = pure_below naming least (Known (Truth false)) tt
  disjunction_orders whole m (u ∷ []) p k at least env = p.0 k at least env
  disjunction_orders whole m (u ∷ v ∷ us) p k at least env =
      then_orders naming (IsIn naming) (IsIn naming) least (u.build k at)
      (λ a. choose at a (side.Arg a) (members_from whole (suc m)))
      (p.0 k at least env)
      (λ a next le low. choose_orders next at a (side.Arg a) (members_from whole (suc m))
      (are_in_up naming least next at.env le env) low (low, tt) (tt, tt))

  -- a comparison from a link on
  pub compared_orders : (whole m : ℕ) (links : List (CmpOp × Unfolded))
      → Each (λ l. IsOrdered l.1) links → (k : ℕ) (at : Context) (a : Arg) (least : ℕ)
      → AreIn naming least at.env → IsIn naming least a → Orders naming (IsIn naming) least (compared whole m links k at a)
  unfolding compared
  compared_orders whole m [] p k at a least env low = pure_below naming least (Known (Truth true)) tt
  compared_orders whole m (l ∷ []) p k at a least env low =
      then_orders naming (IsIn naming) (IsIn naming) least (l.1.build k at)
      (λ b. operator (code.Compare l.0) (a ∷ b ∷ []) at)
      (p.0 k at least env)
      (λ b next le q. operator_orders next (code.Compare l.0) (a ∷ b ∷ []) at
      (in_up naming least next a le low, (q, tt)))
  compared_orders whole m (l ∷ other ∷ links) p k at a least env low =
      then_orders naming (IsIn naming) (IsIn naming) least (l.1.build k at)
      (λ b. operator (code.Compare l.0) (a ∷ b ∷ []) at
      >>> (λ v. choose at v (side.Tail whole (suc m) b) (side.Arg v)))
      (p.0 k at least env)
      (λ b next le q. then_orders naming (IsIn naming) (IsIn naming) next (operator (code.Compare l.0) (a ∷ b ∷ []) at)
      (λ v. choose at v (side.Tail whole (suc m) b) (side.Arg v))
      (operator_orders next (code.Compare l.0) (a ∷ b ∷ []) at (in_up naming least next a le low, (q, tt)))
      (λ v last more r. choose_orders last at v (side.Tail whole (suc m) b) (side.Arg v)
      (are_in_up naming next last at.env more (are_in_up naming least next at.env le env)) r
      (in_up naming next last b more q, tt) (r, tt)))

  -- the arguments of a builtin function's node
  pub builtin_arguments : (b : Builtin) (args : List Arg) → arguments (builtin_work b args) ≡ args
  builtin_arguments builtin.Print args = refl
  builtin_arguments builtin.Len args = refl
  builtin_arguments builtin.Abs args = refl
  builtin_arguments builtin.Min args = refl
  builtin_arguments builtin.Max args = refl
  builtin_arguments builtin.Sum args = refl
  builtin_arguments builtin.Str args = refl
  builtin_arguments builtin.Repr args = refl
  builtin_arguments builtin.Int args = refl
  builtin_arguments builtin.Bool args = refl
  builtin_arguments builtin.Range args = refl

  -- the arguments of a function's node
  function_arguments : (one two : Bool) (k : ℕ) (args : List Arg)
      → arguments (if one then Enter k args else if two then Call k args else Run k args) ≡ args
  function_arguments true two k args = refl
  function_arguments false true k args = refl
  function_arguments false false k args = refl

  -- a call of a function
  pub function_orders : (f : Option Func) (k : ℕ) (at : Context) (args : List Arg) (least : ℕ)
      → AreIn naming least args → Orders naming (IsIn naming) least (function_call f k at args)
  function_orders None k at args least below = stop_orders naming (IsIn naming) least at (Raised NameError at.line)
  function_orders (Some f) k at args least below =
      if_orders naming (IsIn naming) least (nat_eq (length args) (length f.params))
      (emit_value at (function_work f k args)) (stop_by at TypeError)
      (value_orders naming least at (function_work f k args)
      (subst (AreIn naming least) (sym (function_arguments (is_unfolded f) (is_functional f) k args)) below))
      (stop_orders naming (IsIn naming) least at (Raised TypeError at.line))

  -- a call of a value
  pub value_call_orders : (at : Context) (callee : Making Arg) (args : Making (List Arg)) (least : ℕ)
      → Orders naming (IsIn naming) least callee → ((next : ℕ) → least ≤ next → Orders naming (AreIn naming) next args)
      → Orders naming (IsIn naming) least (value_call at callee args)
  value_call_orders at callee args least p q =
      then_orders naming (IsIn naming) (IsIn naming) least callee (λ v. args >>> (λ vs. stop_by at TypeError)) p
      (λ v next le low. then_orders naming (AreIn naming) (IsIn naming) next args (λ vs. stop_by at TypeError)
      (q next le) (λ vs last more bs. stop_orders naming (IsIn naming) last at (Raised TypeError at.line)))

  -- a local as an operand
  operand_orders : (at : Context) (a : Arg) (least : ℕ) → IsIn naming least a
      → Orders naming (IsIn naming) least (operand at a)
  operand_orders at (Known v) least low = pure_below naming least (Known v) low
  operand_orders at (From r) least low = pure_below naming least (From r) low
  operand_orders at (Slot r) least low =
      value_orders naming least at (Read (Slot r) (unbound_local at.routine)) (low, tt)
  operand_orders at Unbound least low =
      stop_orders naming (IsIn naming) least at (Raised (unbound_local at.routine) at.line)

  -- a name of each kind as an operand
  pub operand_as_orders : (r : Resolution) (at : Context) (a : Arg) (least : ℕ) → IsIn naming least a
      → Orders naming (IsIn naming) least (operand_as r at a)
  operand_as_orders resolution.Local at a least low = operand_orders at a least low
  operand_as_orders (resolution.Constant v) at a least low = pure_below naming least (Known v) tt
  operand_as_orders (resolution.Function k) at a least low =
      stop_orders naming (IsIn naming) least at (Raised NameError at.line)
  operand_as_orders (resolution.Builtin b) at a least low =
      stop_orders naming (IsIn naming) least at (Raised NameError at.line)
  operand_as_orders resolution.Imported at a least low =
      stop_orders naming (IsIn naming) least at (Raised NameError at.line)
  operand_as_orders resolution.Variable at a least low =
      stop_orders naming (IsIn naming) least at (Raised NameError at.line)
  operand_as_orders resolution.Unbound at a least low =
      stop_orders naming (IsIn naming) least at (Raised NameError at.line)
