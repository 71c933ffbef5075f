-- What makes the nodes of names, calls and the parts of expressions gives each its callee.
use Rattle.std.proofs.Common.{◌≡◌, ℕ, ◌+◌, List, [], ◌∷◌, ◌++◌, length, nat_eq, Option, Some, None, Bool, true, false, if◌then◌else◌, refl, sym, subst}
use Rattle.pyd_value.specs.declared.value.Value.{Bool as Truth}
use Rattle.pyd_value.specs.declared.fault.Fault.{Fault}
use Rattle.pyd_value.specs.declared.fault.Fault.TheVariants.{Raised}
use Rattle.pyd_value.specs.declared.fault.Kind.TheVariants.{NameError, TypeError}
use Rattle.pyd_value.specs.declared.operator.BinOp.{BinOp}
use Rattle.pyd_value.specs.declared.operator.CmpOp.{CmpOp}
use Rattle.pyd_value.specs.declared.operator.Builtin.{Builtin}
use Rattle.pyd_value.specs.declared.operator.Builtin.TheVariants as builtin
use Rattle.pyd_tree.specs.declared.file.File.{File}
use Rattle.pyd_tree.specs.declared.file.Func.{Func}
use Rattle.pyd_names.specs.Binding.{function, locals}
use Rattle.pyd_names.specs.Resolution.{Resolution}
use Rattle.pyd_names.specs.Resolution as resolution
use Rattle.pyd_meaning.specs.Setting.{unbound_local}
use Rattle.pyd_scope.specs.Rules.{is_functional}
use Rattle.pyd_ir.specs.declared.arg.Arg.{Arg}
use Rattle.pyd_ir.specs.declared.arg.Arg.TheVariants.{Known, From, Slot, Unbound}
use Rattle.pyd_ir.specs.declared.node.Node.{Node}
use Rattle.pyd_ir.specs.declared.work.Work.{Work}
use Rattle.pyd_ir.specs.declared.work.Work.TheVariants.{Call, Run, Enter}
use Rattle.pyd_translate.specs.Making.{Making, Context, pure, carry, ◌>>>◌, emit, stop, emit_value}
use Rattle.pyd_translate.specs.Slots.{arg_of, operand, operand_as}
use Rattle.pyd_translate.specs.Expressions.{Unfolded, UnfoldedSuffix, each, bound, chained, suffixed, conjunction, disjunction, compared, builtin_work, is_unfolded, function_work, function_call, value_call, resolution_at, name_operand, call_as}
use Rattle.pyd_translate.specs.Statements.{Done, or_stopped, then_done}
use Rattle.pyd_runs.specs.Callees.{IsEntered, IsCalled, IsRun, IsThere, HasCallee, HaveCallees}
use Rattle.pyd_translate.proofs.Induction.{Each, Maybe}

module _ (file : File) where
  -- the nodes that are made have their callees
  abbrev pub Callees : {A : Type 0} → Making A → Type 0
  Callees making = (ids : ℕ) → HaveCallees file (making ids).nodes

  -- nodes and then others
  pub callees_both : (xs ys : List Node) → HaveCallees file xs → HaveCallees file ys
      → HaveCallees file (xs ++ ys)
  callees_both [] ys p q = q
  callees_both (x ∷ xs) ys p q = (p.0, callees_both xs ys p.1 q)

  -- nodes, and then others
  carry_callees : {A B : Type 0} (nodes : List Node) (got : Option A) (next : ℕ) (f : A → Making B)
      → HaveCallees file nodes → ((a : A) → Callees (f a))
      → HaveCallees file (carry nodes got next f).nodes
  carry_callees nodes None next f p q = p
  carry_callees nodes (Some a) next f p q = callees_both nodes (f a next).nodes p (q a next)

  -- the same where a Stop leaves the slots as they were
  stopped_callees : {A : Type 0} (env : List Arg) (nodes : List Node) (got : Option A) (next : ℕ)
      (f : A → Making Done) → HaveCallees file nodes → ((a : A) → Callees (f a))
      → HaveCallees file (or_stopped env nodes got next f).nodes
  stopped_callees env nodes None next f p q = p
  stopped_callees env nodes (Some a) next f p q =
      callees_both nodes (f a next).nodes p (q a next)

  -- one piece, and then the next
  pub then_callees : {A B : Type 0} (u : Making A) (f : A → Making B) → Callees u
      → ((a : A) → Callees (f a)) → Callees (u >>> f)
  unfolding ◌>>>◌
  then_callees u f p q ids = carry_callees (u ids).nodes (u ids).got (u ids).next f (p ids) q

  -- what a statement evaluates, and then what it does
  pub done_callees : {A : Type 0} (env : List Arg) (u : Making A) (f : A → Making Done) → Callees u
      → ((a : A) → Callees (f a)) → Callees (then_done env u f)
  unfolding then_done
  done_callees env u f p q ids = stopped_callees env (u ids).nodes (u ids).got (u ids).next f (p ids) q

  -- no node
  pub pure_callees : {A : Type 0} (a : A) → Callees (pure a)
  unfolding pure
  pure_callees a ids = tt

  -- one node
  pub emit_callees : (at : Context) (work : Work) → HasCallee file work
      → Callees (emit at work)
  unfolding emit
  emit_callees at work p ids = (p, tt)

  -- one node, and its value
  pub value_callees : (at : Context) (work : Work) → HasCallee file work
      → Callees (emit_value at work)
  unfolding ◌>>>◌ emit pure
  value_callees at work p ids = (p, tt)

  -- a Stop
  pub stop_callees : (A : Type 0) (at : Context) (fault : Fault) → Callees (stop {A = A} at fault)
  unfolding stop
  stop_callees A at fault ids = (tt, tt)

  -- one of two
  if_callees : {A : Type 0} (which : Bool) (u v : Making A) → Callees u → Callees v
      → Callees (if which then u else v)
  if_callees true u v p q = p
  if_callees false u v p q = q

  -- the node of a builtin function
  builtin_callee : (b : Builtin) (args : List Arg) → HasCallee file (builtin_work b args)
  builtin_callee builtin.Print args = tt
  builtin_callee builtin.Len args = tt
  builtin_callee builtin.Abs args = tt
  builtin_callee builtin.Min args = tt
  builtin_callee builtin.Max args = tt
  builtin_callee builtin.Sum args = tt
  builtin_callee builtin.Str args = tt
  builtin_callee builtin.Repr args = tt
  builtin_callee builtin.Int args = tt
  builtin_callee builtin.Bool args = tt
  builtin_callee builtin.Range args = tt

  -- the node of a function of the file, by its marks
  function_callee : (f : Func) (k : ℕ) (args : List Arg) (one two : Bool) → function file k ≡ Some f
      → is_unfolded f ≡ one → is_functional f ≡ two
      → HasCallee file (if one then Enter k args else if two then Call k args else Run k args)
  function_callee f k args true two at entered marked = subst (IsThere IsEntered) (sym at) entered
  function_callee f k args false true at apart marked =
      subst (IsThere IsCalled) (sym at) (apart, marked)
  function_callee f k args false false at apart unmarked =
      subst (IsThere IsRun) (sym at) (apart, unmarked)

  -- a call of a function
  function_callees : (o : Option Func) (k : ℕ) (at : Context) (args : List Arg)
      → function file k ≡ o → Callees (function_call o k at args)
  function_callees None k at args is = stop_callees Arg at (Raised NameError at.line)
  function_callees (Some f) k at args is =
      if_callees (nat_eq (length args) (length f.params)) _ _
      (value_callees at (function_work f k args)
      (function_callee f k args (is_unfolded f) (is_functional f) is refl refl))
      (stop_callees Arg at (Raised TypeError at.line))

  -- a call of a value
  value_call_callees : (at : Context) (callee : Making Arg) (args : Making (List Arg))
      → Callees callee → Callees args → Callees (value_call at callee args)
  value_call_callees at callee args p q =
      then_callees callee _ p
      (λ v. then_callees args _ q (λ vs. stop_callees Arg at (Raised TypeError at.line)))

  -- a local as an operand
  operand_callees : (at : Context) (a : Arg) → Callees (operand at a)
  operand_callees at (Known v) = pure_callees (Known v)
  operand_callees at (From r) = pure_callees (From r)
  operand_callees at (Slot r) = value_callees at _ tt
  operand_callees at Unbound = stop_callees Arg at (Raised (unbound_local at.routine) at.line)

  -- a name of each kind as an operand
  operand_as_callees : (r : Resolution) (at : Context) (a : Arg) → Callees (operand_as r at a)
  operand_as_callees resolution.Local at a = operand_callees at a
  operand_as_callees (resolution.Constant v) at a = pure_callees (Known v)
  operand_as_callees (resolution.Function k) at a = stop_callees Arg at (Raised NameError at.line)
  operand_as_callees (resolution.Builtin b) at a = stop_callees Arg at (Raised NameError at.line)
  operand_as_callees resolution.Imported at a = stop_callees Arg at (Raised NameError at.line)
  operand_as_callees resolution.Variable at a = stop_callees Arg at (Raised NameError at.line)
  operand_as_callees resolution.Unbound at a = stop_callees Arg at (Raised NameError at.line)

  -- a name
  pub name_callees : (name : List ℕ) (at : Context) → Callees (name_operand file name at)
  name_callees name at =
      operand_as_callees (resolution_at file at name) at
      (arg_of (locals file at.routine) at.env name)

  -- a call of a name of each kind
  pub call_callees : (r : Resolution) (at : Context) (callee : Making Arg) (args : Making (List Arg))
      → Callees callee → Callees args → Callees (call_as file r at callee args)
  call_callees resolution.Local at callee args p q = value_call_callees at callee args p q
  call_callees (resolution.Constant v) at callee args p q = value_call_callees at callee args p q
  call_callees (resolution.Function k) at callee args p q =
      then_callees args _ q (λ vs. function_callees (function file k) k at vs refl)
  call_callees (resolution.Builtin b) at callee args p q =
      then_callees args _ q
      (λ vs. value_callees at (builtin_work b vs) (builtin_callee b vs))
  call_callees resolution.Imported at callee args p q = value_call_callees at callee args p q
  call_callees resolution.Variable at callee args p q = value_call_callees at callee args p q
  call_callees resolution.Unbound at callee args p q = value_call_callees at callee args p q

  -- the nodes of an expression that is unfolded
  abbrev pub OfUnfolded : Unfolded → Type 0
  OfUnfolded u = (k : ℕ) (at : Context) → Callees (u.build k at)

  -- those of brackets
  abbrev pub OfBrackets : UnfoldedSuffix → Type 0
  OfBrackets u = (k : ℕ) (at : Context) (a : Arg) → Callees (u.build k at a)

  -- each in turn
  pub each_callees : (us : List Unfolded) → Each OfUnfolded us → (k : ℕ) (at : Context)
      → Callees (each us k at)
  unfolding each
  each_callees [] p k at = pure_callees []
  each_callees (u ∷ us) p k at =
      then_callees (u.build k at) _ (p.0 k at)
      (λ a. then_callees (each us (k + u.count) at) _ (each_callees us p.1 (k + u.count) at)
      (λ args. pure_callees (a ∷ args)))

  -- what may be missing
  pub bound_callees : (u : Option Unfolded) → Maybe OfUnfolded u → (k : ℕ) (at : Context)
      → Callees (bound u k at)
  bound_callees None p k at = pure_callees []
  bound_callees (Some u) p k at = then_callees (u.build k at) _ (p k at) (λ a. pure_callees (a ∷ []))

  -- operators of one level
  pub chained_callees : (links : List (BinOp × Unfolded)) → Each (λ l. OfUnfolded l.1) links → (k : ℕ)
      (at : Context) (a : Arg) → Callees (chained links k at a)
  unfolding chained
  chained_callees [] p k at a = pure_callees a
  chained_callees (l ∷ links) p k at a =
      then_callees (l.1.build k at) _ (p.0 k at)
      (λ b. then_callees _ _ (value_callees at _ tt)
      (λ c. chained_callees links p.1 (k + l.1.count) at c))

  -- what stands in brackets behind a value
  pub suffixed_callees : (us : List UnfoldedSuffix) → Each OfBrackets us → (k : ℕ)
      (at : Context) (a : Arg) → Callees (suffixed us k at a)
  unfolding suffixed
  suffixed_callees [] p k at a = pure_callees a
  suffixed_callees (u ∷ us) p k at a =
      then_callees (u.build k at a) _ (p.0 k at a)
      (λ v. suffixed_callees us p.1 (k + u.count) at v)

  -- an `and` from a member on
  pub conjunction_callees : (whole m : ℕ) (us : List Unfolded) → Each OfUnfolded us → (k : ℕ)
      (at : Context) → Callees (conjunction whole m us k at)
  unfolding conjunction
  conjunction_callees whole m [] p k at = pure_callees (Known (Truth true))
  conjunction_callees whole m (u ∷ []) p k at = p.0 k at
  conjunction_callees whole m (u ∷ v ∷ us) p k at =
      then_callees (u.build k at) _ (p.0 k at) (λ a. value_callees at _ tt)

  -- an `or` from a member on
  pub disjunction_callees : (whole m : ℕ) (us : List Unfolded) → Each OfUnfolded us → (k : ℕ)
      (at : Context) → Callees (disjunction whole m us k at)
  unfolding disjunction
  disjunction_callees whole m [] p k at = pure_callees (Known (Truth false))
  disjunction_callees whole m (u ∷ []) p k at = p.0 k at
  disjunction_callees whole m (u ∷ v ∷ us) p k at =
      then_callees (u.build k at) _ (p.0 k at) (λ a. value_callees at _ tt)

  -- a comparison from a link on
  pub compared_callees : (whole m : ℕ) (links : List (CmpOp × Unfolded))
      → Each (λ l. OfUnfolded l.1) links → (k : ℕ) (at : Context) (a : Arg)
      → Callees (compared whole m links k at a)
  unfolding compared
  compared_callees whole m [] p k at a = pure_callees (Known (Truth true))
  compared_callees whole m (l ∷ []) p k at a =
      then_callees (l.1.build k at) _ (p.0 k at) (λ b. value_callees at _ tt)
  compared_callees whole m (l ∷ other ∷ links) p k at a =
      then_callees (l.1.build k at) _ (p.0 k at)
      (λ b. then_callees _ _ (value_callees at _ tt) (λ v. value_callees at _ tt))
