-- The nodes of operators, of names, of calls and of choices have what they need, where their parts have values.
use Rattle.std.proofs.Common.{◌≡◌, ℕ, suc, ◌+◌, List, [], ◌∷◌, ◌++◌, length, nat_eq, Option, Some, None, Bool, true, false, if◌then◌else◌, refl}
use Rattle.pyd_value.specs.declared.value.Value.{Value, Bool as Truth}
use Rattle.pyd_value.specs.Truth.{is_true}
use Rattle.pyd_value.specs.declared.fault.Fault.TheVariants.{Raised}
use Rattle.pyd_value.specs.declared.fault.Kind.TheVariants.{NameError, TypeError}
use Rattle.pyd_value.specs.declared.operator.BinOp.{BinOp}
use Rattle.pyd_value.specs.declared.operator.CmpOp.{CmpOp}
use Rattle.pyd_value.specs.declared.operator.Builtin.{Builtin}
use Rattle.pyd_value.specs.declared.operator.Builtin.TheVariants as builtin
use Rattle.pyd_tree.specs.declared.file.File.{File}
use Rattle.pyd_tree.specs.declared.file.Func.{Func}
use Rattle.pyd_names.specs.Resolution.{Resolution}
use Rattle.pyd_names.specs.Resolution as resolution
use Rattle.pyd_meaning.specs.declared.limits.Limits.{Limits}
use Rattle.pyd_meaning.specs.Evaluation.{Evaluation, gives, ◌>>=◌}
use Rattle.pyd_meaning.specs.Setting.{unbound_local, place_of}
use Rattle.pyd_meaning.specs.Expression.{branch}
use Rattle.pyd_scope.specs.Rules.{is_functional}
use Rattle.pyd_ir.specs.declared.arg.Arg.{Arg}
use Rattle.pyd_ir.specs.declared.arg.Arg.TheVariants.{Known, From, Slot, Unbound}
use Rattle.pyd_ir.specs.declared.code.OpCode.{OpCode}
use Rattle.pyd_ir.specs.declared.code.OpCode.TheVariants as code
use Rattle.pyd_ir.specs.declared.node.Node.{Node}
use Rattle.pyd_ir.specs.declared.work.Side.{Side}
use Rattle.pyd_ir.specs.declared.work.Side.TheVariants as side
use Rattle.pyd_ir.specs.declared.work.Work.TheVariants.{Op, Call, Run, Pick, Enter, Read, Print}
use Rattle.pyd_ir.specs.Arguments.{side_arguments}
use Rattle.pyd_ir.specs.Inputs.{Given, value_of, values_of, leaf_meaning}
use Rattle.pyd_ir.specs.Ports.{only_port, ports_of}
use Rattle.pyd_translate.specs.Making.{Making, Context, pure, stop_by, emit_value, node_of, ◌>>>◌}
use Rattle.pyd_translate.specs.Slots.{operand, operand_as}
use Rattle.pyd_translate.specs.Expressions.{Unfolded, UnfoldedSuffix, operator, each, bound, chained, suffixed, choose, members_from, conjunction, disjunction, compared, builtin_work, is_unfolded, function_work, function_call, value_call}
use Rattle.pyd_translate.specs.Walk.{if_there, count_leaf, leaf_ports, side_meaning, slot_names, here}
use Rattle.pyd_translate.specs.Matching.{IsGiven, HaveValues}
use Rattle.pyd_translate.proofs.Induction.{Each, Maybe}
use Rattle.pyd_translate.proofs.Yields.{Yields, yields-gives, yields-faults, yields-after}
use Rattle.pyd_translate.proofs.Supplying.{IsLater, HasSome, some-later, given-values, given-both, some-true, have-true, HasFirst, HasSlots, slots-later, Supplied, then-supplied, pure-supplied, value-supplied, stop-supplied}

-- what goes on with what is there, or raises
yields-there : {A B : Type 0} (o : Option A) (line : ℕ) (next : A → Evaluation B) (P : B → Type 0)
    → ((a : A) → Yields (next a) P) → Yields (if_there o line next) P
yields-there (Some a) line next P f = f a
yields-there None line next P f = yields-faults (Raised NameError line) P

-- the ports of what gives one value
one-port : (e : Evaluation Value) → Yields (e >>= (λ u. gives (only_port u))) HasFirst
one-port e =
    yields-after e (λ u. gives (only_port u)) HasFirst (λ u. yields-gives (only_port u) HasFirst (u, refl))

module _ (file : File) (limits : Limits) where
  -- the slots of the routine in which nodes are made
  abbrev pub IsStaged : Context → ℕ → Given → Type 0
  IsStaged at ids given = HasSlots file limits at.routine ids given at.env

  -- they are so later
  pub staged-later : (at : Context) (low high : ℕ) (before after : Given)
      → IsLater low before high after → IsStaged at low before → IsStaged at high after
  staged-later at low high before after later has =
      slots-later file limits at.routine low high before after at.env later has

  -- the nodes that are made are supplied, and what came of them has a value
  abbrev pub Gives : ℕ → Given → Making Arg → Type 0
  Gives ids given u = Supplied file limits HasSome ids given (u ids)

  -- the same of several values
  abbrev pub GivesAll : ℕ → Given → Making (List Arg) → Type 0
  GivesAll ids given u = Supplied file limits HaveValues ids given (u ids)

  -- an expression's nodes are supplied, wherever they are made
  abbrev pub IsSupplied : Unfolded → Type 0
  IsSupplied u = (k : ℕ) (at : Context) (ids : ℕ) (given : Given) → IsStaged at ids given
      → Gives ids given (u.build k at)

  -- so are those of brackets behind a value
  abbrev pub IsSuffixSupplied : UnfoldedSuffix → Type 0
  IsSuffixSupplied u = (k : ℕ) (at : Context) (a : Arg) (ids : ℕ) (given : Given) → IsStaged at ids given
      → HasSome ids given a → Gives ids given (u.build k at a)

  -- what a leaf puts at its first port
  leaf-puts : (node : Node) (given : Given) → ((v : Value) → ports_of node.work v 0 ≡ Some v)
      → Yields (leaf_ports file limits node given) HasFirst
  leaf-puts node given first =
      yields-after (count_leaf (if_there (leaf_meaning file limits given node) node.line (λ e. e)))
      (λ v. gives (ports_of node.work v)) HasFirst
      (λ v. yields-gives (ports_of node.work v) HasFirst (v, first v))

  -- an operator's node
  pub operator-supplied : (ids : ℕ) (given : Given) (op : OpCode) (args : List Arg) (at : Context)
      → ((v : Value) → ports_of (Op op args) v 0 ≡ Some v)
      → HaveValues ids given args → Gives ids given (operator op args at)
  operator-supplied ids given op args at first have =
      value-supplied file limits ids given at (Op op args) (given-values ids given args have)
      (have-true ids given args have) (leaf-puts (node_of at ids (Op op args)) given first)

  -- each in turn
  pub each-supplied : (us : List Unfolded) → Each IsSupplied us → (k : ℕ) (at : Context) (ids : ℕ) (given : Given)
      → IsStaged at ids given → GivesAll ids given (each us k at)
  unfolding each
  each-supplied [] p k at ids given has = pure-supplied file limits HaveValues ids given [] tt
  each-supplied (u ∷ us) p k at ids given has =
      then-supplied file limits HasSome HaveValues ids given (u.build k at)
      (λ a. each us (k + u.count) at >>> (λ args. pure (a ∷ args)))
      (p.0 k at ids given has)
      (λ next mid a later v. then-supplied file limits HaveValues HaveValues next mid (each us (k + u.count) at)
      (λ args. pure (a ∷ args))
      (each-supplied us p.1 (k + u.count) at next mid (staged-later at ids next given mid later has))
      (λ last after args more vs. pure-supplied file limits HaveValues last after (a ∷ args)
      (some-later next last mid after a more v, vs)))

  -- what may be missing
  pub bound-supplied : (u : Option Unfolded) → Maybe IsSupplied u → (k : ℕ) (at : Context) (ids : ℕ) (given : Given)
      → IsStaged at ids given → GivesAll ids given (bound u k at)
  bound-supplied None p k at ids given has = pure-supplied file limits HaveValues ids given [] tt
  bound-supplied (Some u) p k at ids given has =
      then-supplied file limits HasSome HaveValues ids given (u.build k at) (λ a. pure (a ∷ []))
      (p k at ids given has)
      (λ next mid a later v. pure-supplied file limits HaveValues next mid (a ∷ []) (v, tt))

  -- operators of one level
  pub chained-supplied : (links : List (BinOp × Unfolded)) → Each (λ l. IsSupplied l.1) links
      → (k : ℕ) (at : Context) (a : Arg) (ids : ℕ) (given : Given)
      → IsStaged at ids given → HasSome ids given a → Gives ids given (chained links k at a)
  unfolding chained
  chained-supplied [] p k at a ids given has v = pure-supplied file limits HasSome ids given a v
  chained-supplied (l ∷ links) p k at a ids given has v =
      then-supplied file limits HasSome HasSome ids given (l.1.build k at)
      (λ b. operator (code.Binary l.0) (a ∷ b ∷ []) at >>> (λ c. chained links (k + l.1.count) at c))
      (p.0 k at ids given has)
      (λ next mid b later u. then-supplied file limits HasSome HasSome next mid (operator (code.Binary l.0) (a ∷ b ∷ []) at)
      (λ c. chained links (k + l.1.count) at c)
      (operator-supplied next mid (code.Binary l.0) (a ∷ b ∷ []) at (λ x. refl)
      (some-later ids next given mid a later v, (u, tt)))
      (λ last after c more t. chained-supplied links p.1 (k + l.1.count) at c last after
      (staged-later at next last mid after more (staged-later at ids next given mid later has)) t))

  -- what stands in brackets behind a value
  pub suffixed-supplied : (us : List UnfoldedSuffix) → Each IsSuffixSupplied us
      → (k : ℕ) (at : Context) (a : Arg) (ids : ℕ) (given : Given)
      → IsStaged at ids given → HasSome ids given a → Gives ids given (suffixed us k at a)
  unfolding suffixed
  suffixed-supplied [] p k at a ids given has v = pure-supplied file limits HasSome ids given a v
  suffixed-supplied (u ∷ us) p k at a ids given has v =
      then-supplied file limits HasSome HasSome ids given (u.build k at a) (λ b. suffixed us (k + u.count) at b)
      (p.0 k at a ids given has v)
      (λ next mid b later t. suffixed-supplied us p.1 (k + u.count) at b next mid
      (staged-later at ids next given mid later has) t)

  -- a choice between two sides
  pub choose-supplied : (ids : ℕ) (given : Given) (at : Context) (test : Arg) (first second : Side)
      → IsStaged at ids given → HasSome ids given test → HaveValues ids given (side_arguments first)
      → HaveValues ids given (side_arguments second) → Gives ids given (choose at test first second)
  choose-supplied ids given at test first second has v p q =
      value-supplied file limits ids given at (Pick test first second at.env) (
        (given-values ids given (test ∷ []) (v, tt)).0,
        given-both ids given (side_arguments first) (side_arguments second ++ at.env)
            (given-values ids given (side_arguments first) p)
            (given-both ids given (side_arguments second) at.env (given-values ids given (side_arguments second) q) has.1),
      ) (
        some-true ids given test v,
        have-true ids given (side_arguments first) p,
        have-true ids given (side_arguments second) q,
        has.0,
      )
      (yields-there (value_of given test) at.line _ HasFirst (λ x. one-port (branch (is_true x)
      (side_meaning file limits at.routine at.depth given first (place_of at.line))
      (side_meaning file limits at.routine at.depth given second (place_of at.line))
      (slot_names file limits at.routine at.depth at.env given))))

  -- an `and` from a member on
  pub conjunction-supplied : (whole m : ℕ) (us : List Unfolded) → Each IsSupplied us
      → (k : ℕ) (at : Context) (ids : ℕ) (given : Given)
      → IsStaged at ids given → Gives ids given (conjunction whole m us k at)
  unfolding conjunction
  conjunction-supplied whole m [] p k at ids given has =
      pure-supplied file limits HasSome ids given (Known (Truth true)) (Truth true, (refl, tt))
  conjunction-supplied whole m (u ∷ []) p k at ids given has = p.0 k at ids given has
  conjunction-supplied whole m (u ∷ other ∷ us) p k at ids given has =
      then-supplied file limits HasSome HasSome ids given (u.build k at)
      (λ a. choose at a (members_from whole (suc m)) (side.Arg a))
      (p.0 k at ids given has)
      (λ next mid a later v. choose-supplied next mid at a (members_from whole (suc m)) (side.Arg a)
      (staged-later at ids next given mid later has) v (none-given next mid) (v, tt))
    where
      none-given : (next : ℕ) (mid : Given) → HaveValues next mid (side_arguments (members_from whole (suc m)))
      none-given next mid = ((_, (refl, tt)), tt)

  -- an `or` from a member on
  pub disjunction-supplied : (whole m : ℕ) (us : List Unfolded) → Each IsSupplied us
      → (k : ℕ) (at : Context) (ids : ℕ) (given : Given)
      → IsStaged at ids given → Gives ids given (disjunction whole m us k at)
  unfolding disjunction
  disjunction-supplied whole m [] p k at ids given has =
      pure-supplied file limits HasSome ids given (Known (Truth false)) (Truth false, (refl, tt))
  disjunction-supplied whole m (u ∷ []) p k at ids given has = p.0 k at ids given has
  disjunction-supplied whole m (u ∷ other ∷ us) p k at ids given has =
      then-supplied file limits HasSome HasSome ids given (u.build k at)
      (λ a. choose at a (side.Arg a) (members_from whole (suc m)))
      (p.0 k at ids given has)
      (λ next mid a later v. choose-supplied next mid at a (side.Arg a) (members_from whole (suc m))
      (staged-later at ids next given mid later has) v (v, tt) (none-given next mid))
    where
      none-given : (next : ℕ) (mid : Given) → HaveValues next mid (side_arguments (members_from whole (suc m)))
      none-given next mid = ((_, (refl, tt)), tt)

  -- a comparison from a link on
  pub compared-supplied : (whole m : ℕ) (links : List (CmpOp × Unfolded))
      → Each (λ l. IsSupplied l.1) links → (k : ℕ) (at : Context) (a : Arg) (ids : ℕ) (given : Given)
      → IsStaged at ids given → HasSome ids given a → Gives ids given (compared whole m links k at a)
  unfolding compared
  compared-supplied whole m [] p k at a ids given has v =
      pure-supplied file limits HasSome ids given (Known (Truth true)) (Truth true, (refl, tt))
  compared-supplied whole m (l ∷ []) p k at a ids given has v =
      then-supplied file limits HasSome HasSome ids given (l.1.build k at)
      (λ b. operator (code.Compare l.0) (a ∷ b ∷ []) at)
      (p.0 k at ids given has)
      (λ next mid b later u. operator-supplied next mid (code.Compare l.0) (a ∷ b ∷ []) at (λ x. refl)
      (some-later ids next given mid a later v, (u, tt)))
  compared-supplied whole m (l ∷ other ∷ links) p k at a ids given has v =
      then-supplied file limits HasSome HasSome ids given (l.1.build k at)
      (λ b. operator (code.Compare l.0) (a ∷ b ∷ []) at
      >>> (λ c. choose at c (side.Tail whole (suc m) b) (side.Arg c)))
      (p.0 k at ids given has)
      (λ next mid b later u. then-supplied file limits HasSome HasSome next mid (operator (code.Compare l.0) (a ∷ b ∷ []) at)
      (λ c. choose at c (side.Tail whole (suc m) b) (side.Arg c))
      (operator-supplied next mid (code.Compare l.0) (a ∷ b ∷ []) at (λ x. refl)
      (some-later ids next given mid a later v, (u, tt)))
      (λ last after c more t. choose-supplied last after at c (side.Tail whole (suc m) b) (side.Arg c)
      (staged-later at next last mid after more (staged-later at ids next given mid later has)) t
      (some-later next last mid after b more u, tt) (t, tt)))

  -- the node of a builtin function
  pub builtin-supplied : (b : Builtin) (ids : ℕ) (given : Given) (args : List Arg) (at : Context)
      → HaveValues ids given args → Gives ids given (emit_value at (builtin_work b args))
  builtin-supplied builtin.Print ids given args at have =
      value-supplied file limits ids given at (Print args) (given-values ids given args have)
      (have-true ids given args have) (leaf-puts (node_of at ids (Print args)) given (λ x. refl))
  builtin-supplied builtin.Len ids given args at have = operator-supplied ids given code.Len args at (λ x. refl) have
  builtin-supplied builtin.Abs ids given args at have = operator-supplied ids given code.Abs args at (λ x. refl) have
  builtin-supplied builtin.Min ids given args at have = operator-supplied ids given code.Min args at (λ x. refl) have
  builtin-supplied builtin.Max ids given args at have = operator-supplied ids given code.Max args at (λ x. refl) have
  builtin-supplied builtin.Sum ids given args at have = operator-supplied ids given code.Sum args at (λ x. refl) have
  builtin-supplied builtin.Str ids given args at have = operator-supplied ids given code.Str args at (λ x. refl) have
  builtin-supplied builtin.Repr ids given args at have = operator-supplied ids given code.Repr args at (λ x. refl) have
  builtin-supplied builtin.Int ids given args at have = operator-supplied ids given code.Int args at (λ x. refl) have
  builtin-supplied builtin.Bool ids given args at have = operator-supplied ids given code.Bool args at (λ x. refl) have
  builtin-supplied builtin.Range ids given args at have = operator-supplied ids given code.Range args at (λ x. refl) have

  -- the node of a function of each kind
  work-supplied : (entered functional : Bool) (k ids : ℕ) (given : Given) (args : List Arg) (at : Context)
      → HaveValues ids given args
      → Gives ids given (emit_value at (if entered then Enter k args else if functional then Call k args else Run k args))
  work-supplied true functional k ids given args at have =
      value-supplied file limits ids given at (Enter k args) (given-values ids given args have)
      (have-true ids given args have)
      (yields-there (values_of given args) at.line _ HasFirst
      (λ vs. one-port ((here file limits at.routine at.depth).calls k vs at.line)))
  work-supplied false true k ids given args at have =
      value-supplied file limits ids given at (Call k args) (given-values ids given args have)
      (have-true ids given args have) (leaf-puts (node_of at ids (Call k args)) given (λ x. refl))
  work-supplied false false k ids given args at have =
      value-supplied file limits ids given at (Run k args) (given-values ids given args have)
      (have-true ids given args have) (leaf-puts (node_of at ids (Run k args)) given (λ x. refl))

  -- a call with the right count of arguments or another
  counted-supplied : (f : Func) (right : Bool) (k ids : ℕ) (given : Given) (args : List Arg) (at : Context)
      → HaveValues ids given args
      → Gives ids given (if right then emit_value at (function_work f k args) else stop_by at TypeError)
  counted-supplied f true k ids given args at have =
      work-supplied (is_unfolded f) (is_functional f) k ids given args at have
  counted-supplied f false k ids given args at have =
      stop-supplied file limits HasSome ids given at (Raised TypeError at.line)

  -- a call of a function
  pub function-supplied : (f : Option Func) (k : ℕ) (at : Context) (args : List Arg) (ids : ℕ) (given : Given)
      → HaveValues ids given args → Gives ids given (function_call f k at args)
  function-supplied None k at args ids given have = stop-supplied file limits HasSome ids given at (Raised NameError at.line)
  function-supplied (Some f) k at args ids given have =
      counted-supplied f (nat_eq (length args) (length f.params)) k ids given args at have

  -- a call of a value
  pub value_call-supplied : (at : Context) (callee : Making Arg) (args : Making (List Arg)) (ids : ℕ) (given : Given)
      → Gives ids given callee
      → ((next : ℕ) (mid : Given) → IsLater ids given next mid → GivesAll next mid args)
      → Gives ids given (value_call at callee args)
  value_call-supplied at callee args ids given p q =
      then-supplied file limits HasSome HasSome ids given callee (λ v. args >>> (λ vs. stop_by at TypeError)) p
      (λ next mid a later v. then-supplied file limits HaveValues HasSome next mid args (λ vs. stop_by at TypeError)
      (q next mid later) (λ last after vs more have. stop-supplied file limits HasSome last after at (Raised TypeError at.line)))

  -- a local as an operand
  operand-supplied : (at : Context) (a : Arg) (ids : ℕ) (given : Given) → IsGiven ids given a
      → Gives ids given (operand at a)
  operand-supplied at (Known v) ids given is = pure-supplied file limits HasSome ids given (Known v) (v, (refl, tt))
  operand-supplied at (From r) ids given is =
      pure-supplied file limits HasSome ids given (From r) (is.1, (is.2, is.0))
  operand-supplied at (Slot r) ids given is =
      value-supplied file limits ids given at (Read (Slot r) (unbound_local at.routine)) (is, tt) tt
      (leaf-puts (node_of at ids (Read (Slot r) (unbound_local at.routine))) given (λ x. refl))
  operand-supplied at Unbound ids given is =
      stop-supplied file limits HasSome ids given at (Raised (unbound_local at.routine) at.line)

  -- a name of each kind as an operand
  pub operand_as-supplied : (r : Resolution) (at : Context) (a : Arg) (ids : ℕ) (given : Given) → IsGiven ids given a
      → Gives ids given (operand_as r at a)
  operand_as-supplied resolution.Local at a ids given is = operand-supplied at a ids given is
  operand_as-supplied (resolution.Constant v) at a ids given is =
      pure-supplied file limits HasSome ids given (Known v) (v, (refl, tt))
  operand_as-supplied (resolution.Function k) at a ids given is =
      stop-supplied file limits HasSome ids given at (Raised NameError at.line)
  operand_as-supplied (resolution.Builtin b) at a ids given is =
      stop-supplied file limits HasSome ids given at (Raised NameError at.line)
  operand_as-supplied resolution.Imported at a ids given is =
      stop-supplied file limits HasSome ids given at (Raised NameError at.line)
  operand_as-supplied resolution.Variable at a ids given is =
      stop-supplied file limits HasSome ids given at (Raised NameError at.line)
  operand_as-supplied resolution.Unbound at a ids given is =
      stop-supplied file limits HasSome ids given at (Raised NameError at.line)
