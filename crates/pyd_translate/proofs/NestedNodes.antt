-- No composite of an expression has a rest.
use Rattle.std.proofs.Common.{ℕ, ◌+◌, List, [], ◌∷◌, ◌++◌, length, nat_eq, Option, Some, None, Bool, true, false, if◌then◌else◌}
use Rattle.pyd_value.specs.declared.value.Value.{Bool as Truth}
use Rattle.pyd_value.specs.declared.fault.Fault.{Fault}
use Rattle.pyd_value.specs.declared.fault.Fault.TheVariants.{Raised}
use Rattle.pyd_value.specs.declared.fault.Kind.TheVariants.{NameError, TypeError}
use Rattle.pyd_value.specs.declared.operator.BinOp.{BinOp}
use Rattle.pyd_value.specs.declared.operator.CmpOp.{CmpOp}
use Rattle.pyd_value.specs.declared.operator.Builtin.{Builtin}
use Rattle.pyd_value.specs.declared.operator.Builtin.TheVariants as builtin
use Rattle.pyd_tree.specs.declared.file.File.{File}
use Rattle.pyd_tree.specs.declared.file.Func.{Func}
use Rattle.pyd_names.specs.Binding.{function, locals}
use Rattle.pyd_names.specs.Resolution.{Resolution}
use Rattle.pyd_names.specs.Resolution as resolution
use Rattle.pyd_meaning.specs.Setting.{unbound_local}
use Rattle.pyd_scope.specs.Rules.{is_functional}
use Rattle.pyd_ir.specs.declared.arg.Arg.{Arg}
use Rattle.pyd_ir.specs.declared.arg.Arg.TheVariants.{Known, From, Slot, Unbound}
use Rattle.pyd_ir.specs.declared.node.Node.{Node}
use Rattle.pyd_ir.specs.declared.work.Work.{Work}
use Rattle.pyd_ir.specs.declared.work.Work.TheVariants.{Call, Run, Enter}
use Rattle.pyd_translate.specs.Making.{Making, Context, pure, carry, ◌>>>◌, emit, stop, emit_value}
use Rattle.pyd_translate.specs.Slots.{arg_of, operand, operand_as}
use Rattle.pyd_translate.specs.Expressions.{Unfolded, UnfoldedSuffix, each, bound, chained, suffixed, conjunction, disjunction, compared, builtin_work, is_unfolded, function_work, function_call, value_call, resolution_at, name_operand, call_as}
use Rattle.pyd_translate.specs.Statements.{Done, or_stopped, then_done}
use Rattle.pyd_translate.specs.Nested.{HasNested, AreNested}
use Rattle.pyd_translate.proofs.Induction.{Each, Maybe}

module _ (file : File) where
  -- the nodes that are made have nested rests
  abbrev pub Nests : {A : Type 0} → Making A → Type 0
  Nests making = (ids : ℕ) → AreNested file (making ids).nodes

  -- nodes and then others
  nested_both : (xs ys : List Node) → AreNested file xs → AreNested file ys
      → AreNested file (xs ++ ys)
  nested_both [] ys p q = q
  nested_both (x ∷ xs) ys p q = (p.0, nested_both xs ys p.1 q)

  -- nodes, and then others
  carry_nests : {A B : Type 0} (nodes : List Node) (got : Option A) (next : ℕ) (f : A → Making B)
      → AreNested file nodes → ((a : A) → Nests (f a))
      → AreNested file (carry nodes got next f).nodes
  carry_nests nodes None next f p q = p
  carry_nests nodes (Some a) next f p q = nested_both nodes (f a next).nodes p (q a next)

  -- the same where a Stop leaves the slots as they were
  stopped_nests : {A : Type 0} (env : List Arg) (nodes : List Node) (got : Option A) (next : ℕ)
      (f : A → Making Done) → AreNested file nodes → ((a : A) → Nests (f a))
      → AreNested file (or_stopped env nodes got next f).nodes
  stopped_nests env nodes None next f p q = p
  stopped_nests env nodes (Some a) next f p q =
      nested_both nodes (f a next).nodes p (q a next)

  -- one piece, and then the next
  pub then_nests : {A B : Type 0} (u : Making A) (f : A → Making B) → Nests u
      → ((a : A) → Nests (f a)) → Nests (u >>> f)
  unfolding ◌>>>◌
  then_nests u f p q ids = carry_nests (u ids).nodes (u ids).got (u ids).next f (p ids) q

  -- what a statement evaluates, and then what it does
  pub done_nests : {A : Type 0} (env : List Arg) (u : Making A) (f : A → Making Done) → Nests u
      → ((a : A) → Nests (f a)) → Nests (then_done env u f)
  unfolding then_done
  done_nests env u f p q ids = stopped_nests env (u ids).nodes (u ids).got (u ids).next f (p ids) q

  -- no node
  pub pure_nests : {A : Type 0} (a : A) → Nests (pure a)
  unfolding pure
  pure_nests a ids = tt

  -- one node
  pub emit_nests : (at : Context) (work : Work) → HasNested file at.routine work
      → Nests (emit at work)
  unfolding emit
  emit_nests at work p ids = (p, tt)

  -- one node, and its value
  pub value_nests : (at : Context) (work : Work) → HasNested file at.routine work
      → Nests (emit_value at work)
  unfolding ◌>>>◌ emit pure
  value_nests at work p ids = (p, tt)

  -- a Stop
  pub stop_nests : (A : Type 0) (at : Context) (fault : Fault) → Nests (stop {A = A} at fault)
  unfolding stop
  stop_nests A at fault ids = (tt, tt)

  -- one of two
  if_nests : {A : Type 0} (which : Bool) (u v : Making A) → Nests u → Nests v
      → Nests (if which then u else v)
  if_nests true u v p q = p
  if_nests false u v p q = q

  -- the node of a builtin function
  builtin_nested : (routine : ℕ) (b : Builtin) (args : List Arg)
      → HasNested file routine (builtin_work b args)
  builtin_nested routine builtin.Print args = tt
  builtin_nested routine builtin.Len args = tt
  builtin_nested routine builtin.Abs args = tt
  builtin_nested routine builtin.Min args = tt
  builtin_nested routine builtin.Max args = tt
  builtin_nested routine builtin.Sum args = tt
  builtin_nested routine builtin.Str args = tt
  builtin_nested routine builtin.Repr args = tt
  builtin_nested routine builtin.Int args = tt
  builtin_nested routine builtin.Bool args = tt
  builtin_nested routine builtin.Range args = tt

  -- the node of a function
  function_nested : (one two : Bool) (routine k : ℕ) (args : List Arg)
      → HasNested file routine
      (if one then Enter k args else if two then Call k args else Run k args)
  function_nested true two routine k args = tt
  function_nested false true routine k args = tt
  function_nested false false routine k args = tt

  -- a call of a function
  function_nests : (f : Option Func) (k : ℕ) (at : Context) (args : List Arg)
      → Nests (function_call f k at args)
  function_nests None k at args = stop_nests Arg at (Raised NameError at.line)
  function_nests (Some f) k at args =
      if_nests (nat_eq (length args) (length f.params)) _ _
      (value_nests at (function_work f k args)
      (function_nested (is_unfolded f) (is_functional f) at.routine k args))
      (stop_nests Arg at (Raised TypeError at.line))

  -- a call of a value
  value_call_nests : (at : Context) (callee : Making Arg) (args : Making (List Arg))
      → Nests callee → Nests args → Nests (value_call at callee args)
  value_call_nests at callee args p q =
      then_nests callee _ p
      (λ v. then_nests args _ q (λ vs. stop_nests Arg at (Raised TypeError at.line)))

  -- a local as an operand
  operand_nests : (at : Context) (a : Arg) → Nests (operand at a)
  operand_nests at (Known v) = pure_nests (Known v)
  operand_nests at (From r) = pure_nests (From r)
  operand_nests at (Slot r) = value_nests at _ tt
  operand_nests at Unbound = stop_nests Arg at (Raised (unbound_local at.routine) at.line)

  -- a name of each kind as an operand
  operand_as_nests : (r : Resolution) (at : Context) (a : Arg) → Nests (operand_as r at a)
  operand_as_nests resolution.Local at a = operand_nests at a
  operand_as_nests (resolution.Constant v) at a = pure_nests (Known v)
  operand_as_nests (resolution.Function k) at a = stop_nests Arg at (Raised NameError at.line)
  operand_as_nests (resolution.Builtin b) at a = stop_nests Arg at (Raised NameError at.line)
  operand_as_nests resolution.Imported at a = stop_nests Arg at (Raised NameError at.line)
  operand_as_nests resolution.Variable at a = stop_nests Arg at (Raised NameError at.line)
  operand_as_nests resolution.Unbound at a = stop_nests Arg at (Raised NameError at.line)

  -- a name
  pub name_nests : (name : List ℕ) (at : Context) → Nests (name_operand file name at)
  name_nests name at =
      operand_as_nests (resolution_at file at name) at
      (arg_of (locals file at.routine) at.env name)

  -- a call of a name of each kind
  pub call_nests : (r : Resolution) (at : Context) (callee : Making Arg) (args : Making (List Arg))
      → Nests callee → Nests args → Nests (call_as file r at callee args)
  call_nests resolution.Local at callee args p q = value_call_nests at callee args p q
  call_nests (resolution.Constant v) at callee args p q = value_call_nests at callee args p q
  call_nests (resolution.Function k) at callee args p q =
      then_nests args _ q (λ vs. function_nests (function file k) k at vs)
  call_nests (resolution.Builtin b) at callee args p q =
      then_nests args _ q
      (λ vs. value_nests at (builtin_work b vs) (builtin_nested at.routine b vs))
  call_nests resolution.Imported at callee args p q = value_call_nests at callee args p q
  call_nests resolution.Variable at callee args p q = value_call_nests at callee args p q
  call_nests resolution.Unbound at callee args p q = value_call_nests at callee args p q

  -- the nodes of an expression that is unfolded
  abbrev pub IsNests : Unfolded → Type 0
  IsNests u = (k : ℕ) (at : Context) → Nests (u.build k at)

  -- those of brackets
  abbrev pub IsSuffixNests : UnfoldedSuffix → Type 0
  IsSuffixNests u = (k : ℕ) (at : Context) (a : Arg) → Nests (u.build k at a)

  -- each in turn
  pub each_nests : (us : List Unfolded) → Each IsNests us → (k : ℕ) (at : Context)
      → Nests (each us k at)
  unfolding each
  each_nests [] p k at = pure_nests []
  each_nests (u ∷ us) p k at =
      then_nests (u.build k at) _ (p.0 k at)
      (λ a. then_nests (each us (k + u.count) at) _ (each_nests us p.1 (k + u.count) at)
      (λ args. pure_nests (a ∷ args)))

  -- what may be missing
  pub bound_nests : (u : Option Unfolded) → Maybe IsNests u → (k : ℕ) (at : Context)
      → Nests (bound u k at)
  bound_nests None p k at = pure_nests []
  bound_nests (Some u) p k at = then_nests (u.build k at) _ (p k at) (λ a. pure_nests (a ∷ []))

  -- operators of one level
  pub chained_nests : (links : List (BinOp × Unfolded)) → Each (λ l. IsNests l.1) links → (k : ℕ)
      (at : Context) (a : Arg) → Nests (chained links k at a)
  unfolding chained
  chained_nests [] p k at a = pure_nests a
  chained_nests (l ∷ links) p k at a =
      then_nests (l.1.build k at) _ (p.0 k at)
      (λ b. then_nests _ _ (value_nests at _ tt)
      (λ c. chained_nests links p.1 (k + l.1.count) at c))

  -- what stands in brackets behind a value
  pub suffixed_nests : (us : List UnfoldedSuffix) → Each IsSuffixNests us → (k : ℕ)
      (at : Context) (a : Arg) → Nests (suffixed us k at a)
  unfolding suffixed
  suffixed_nests [] p k at a = pure_nests a
  suffixed_nests (u ∷ us) p k at a =
      then_nests (u.build k at a) _ (p.0 k at a)
      (λ v. suffixed_nests us p.1 (k + u.count) at v)

  -- an `and` from a member on
  pub conjunction_nests : (whole m : ℕ) (us : List Unfolded) → Each IsNests us → (k : ℕ)
      (at : Context) → Nests (conjunction whole m us k at)
  unfolding conjunction
  conjunction_nests whole m [] p k at = pure_nests (Known (Truth true))
  conjunction_nests whole m (u ∷ []) p k at = p.0 k at
  conjunction_nests whole m (u ∷ v ∷ us) p k at =
      then_nests (u.build k at) _ (p.0 k at) (λ a. value_nests at _ tt)

  -- an `or` from a member on
  pub disjunction_nests : (whole m : ℕ) (us : List Unfolded) → Each IsNests us → (k : ℕ)
      (at : Context) → Nests (disjunction whole m us k at)
  unfolding disjunction
  disjunction_nests whole m [] p k at = pure_nests (Known (Truth false))
  disjunction_nests whole m (u ∷ []) p k at = p.0 k at
  disjunction_nests whole m (u ∷ v ∷ us) p k at =
      then_nests (u.build k at) _ (p.0 k at) (λ a. value_nests at _ tt)

  -- a comparison from a link on
  pub compared_nests : (whole m : ℕ) (links : List (CmpOp × Unfolded))
      → Each (λ l. IsNests l.1) links → (k : ℕ) (at : Context) (a : Arg)
      → Nests (compared whole m links k at a)
  unfolding compared
  compared_nests whole m [] p k at a = pure_nests (Known (Truth true))
  compared_nests whole m (l ∷ []) p k at a =
      then_nests (l.1.build k at) _ (p.0 k at) (λ b. value_nests at _ tt)
  compared_nests whole m (l ∷ other ∷ links) p k at a =
      then_nests (l.1.build k at) _ (p.0 k at)
      (λ b. then_nests _ _ (value_nests at _ tt) (λ v. value_nests at _ tt))
