-- What binds slots has what it needs, and leaves slots that are given: assignments, augmented assignments, and asserts.
use Rattle.std.proofs.Common.{◌≡◌, ◌<◌, ℕ, suc, ◌+◌, List, [], ◌∷◌, length, zero, Option, Some, None, option_map, Bool, true, false, refl, sym, ap, subst, ◌∙◌, arith}
use Rattle.std.specs.List.{slice_get}
use Rattle.pyd_value.specs.declared.value.Value.{Value}
use Rattle.pyd_value.specs.declared.value.Value.TheVariants as value
use Rattle.pyd_value.specs.declared.fault.Fault.TheVariants.{Raised}
use Rattle.pyd_value.specs.declared.fault.Kind.TheVariants.{ValueError}
use Rattle.pyd_value.specs.declared.operator.BinOp.{BinOp}
use Rattle.pyd_tree.specs.declared.expression.Expr.{Expr}
use Rattle.pyd_tree.specs.declared.statement.Targets.{Targets}
use Rattle.pyd_tree.specs.declared.file.File.{File}
use Rattle.pyd_names.specs.Binding.{locals}
use Rattle.pyd_ops.specs.Sequence.{items, item_in}
use Rattle.pyd_meaning.specs.declared.limits.Limits.{Limits}
use Rattle.pyd_meaning.specs.Evaluation.{Evaluation, settled, gives}
use Rattle.pyd_ir.specs.declared.arg.Arg.{Arg}
use Rattle.pyd_ir.specs.declared.arg.Arg.TheVariants.{Known, From}
use Rattle.pyd_ir.specs.declared.code.OpCode.TheVariants as code
use Rattle.pyd_ir.specs.declared.work.Side.TheVariants as side
use Rattle.pyd_ir.specs.declared.work.Work.{Work}
use Rattle.pyd_ir.specs.declared.work.Work.TheVariants.{Op}
use Rattle.pyd_ir.specs.Inputs.{Given, both, leaf_meaning}
use Rattle.pyd_ir.specs.Operation.{operation}
use Rattle.pyd_ir.specs.Ports.{Ports, ports_of}
use Rattle.pyd_translate.specs.Making.{Making, Context, pure, emit, node_of, port, ◌>>>◌}
use Rattle.pyd_scope.specs.Numbering.{Point}
use Rattle.pyd_translate.specs.Slots.{set_slot}
use Rattle.pyd_translate.specs.Expressions.{name_operand, operator}
use Rattle.pyd_translate.specs.Statements.{set_members, bind_targets, slots_at, header, assigned, augmented, message_unfolds, asserted}
use Rattle.pyd_translate.specs.Walk.{if_there, count_leaf, leaf_ports}
use Rattle.pyd_translate.specs.Matching.{IsGiven}
use Rattle.pyd_translate.proofs.Keeping.{given-has}
use Rattle.pyd_translate.proofs.Slots.{set_count, set_given}
use Rattle.pyd_translate.proofs.Assigning.{IsTupleOf, items_tuple, yields_unpack}
use Rattle.pyd_translate.proofs.Yields.{Yields, yields-gives, yields-then}
use Rattle.pyd_translate.proofs.Supplying.{HasSome, some-later, given-values, have-true, IsMade, HasSlots, Supplied, then-supplied, pure-supplied, emit-supplied, stop-supplied}
use Rattle.pyd_translate.proofs.SuppliedExpressions.{IsStaged, staged-later, Gives, operator-supplied, choose-supplied}
use Rattle.pyd_translate.proofs.SuppliedSides.{name-supplied, expression-supplied}

-- each member below a count stands at its port
abbrev HasMembers : ℕ → Ports → Type 0
HasMembers count ports = (q : ℕ) → q < count → (v : Value) × (ports q ≡ Some v)

-- an item below the length of a list is there
item_there : (vs : List Value) (q : ℕ) → q < length vs → (v : Value) × (slice_get vs q ≡ Some v)
item_there [] q lt = absurd (omega arith)
item_there (v ∷ vs) zero lt = (v, refl)
item_there (v ∷ vs) (suc q) lt = item_there vs q (omega arith)

-- the members of a tuple of so many
tuple_members : (count : ℕ) (t : Value) → IsTupleOf count t → HasMembers count (λ q. item_in (items t) q)
tuple_members count t is q lt =
    let long : length is.0 ≡ count = is.1.1 in
    let there = item_there is.0 q (omega (arith, long, lt)) in
    (there.0, ap (λ o. item_in o q) (ap items is.1.0 ∙ items_tuple is.0) ∙ there.1)

module _ (file : File) (limits : Limits) where
  -- what binds slots is supplied, and the slots are given
  abbrev pub Binds : ℕ → ℕ → Given → Making (List Arg) → Type 0
  Binds routine ids given u = Supplied file limits (HasSlots file limits routine) ids given (u ids)

  -- a slot that takes an argument
  slot-set : (routine ids : ℕ) (given : Given) (env : List Arg) (name : List ℕ) (b : Arg)
      → HasSlots file limits routine ids given env → IsGiven ids given b
      → HasSlots file limits routine ids given (set_slot (locals file routine) env name b)
  slot-set routine ids given env name b has is =
      (set_count (locals file routine) env name b has.0, set_given (locals file routine) ids given env name b has.1 is)

  -- the members of what a node unpacks, from a port on
  members-set : (routine ids id : ℕ) (given : Given) (p : ℕ) (names : List (List ℕ)) (env : List Arg)
      → id < ids → ((q : ℕ) → q < length names → (v : Value) × (given id (p + q) ≡ Some v))
      → HasSlots file limits routine ids given env
      → HasSlots file limits routine ids given (set_members (locals file routine) env id p names)
  members-set routine ids id given p [] env lt there has = has
  members-set routine ids id given p (name ∷ names) env lt there has =
      let here : p + 0 ≡ p = omega arith in
      let first = there 0 (omega arith) in
      members-set routine ids id given (suc p) names (set_slot (locals file routine) env name (From (port id p))) lt
      (λ q low. let more : suc p + q ≡ p + suc q = omega arith in
      let found = there (suc q) (omega arith) in
      (found.0, ap (given id) more ∙ found.1))
      (slot-set routine ids given env name (From (port id p)) has (lt, first.0, ap (given id) (sym here) ∙ first.1))

  -- what an unpacking puts at its ports
  unpack-puts : (count ids : ℕ) (given : Given) (at : Context) (a : Arg) → HasSome ids given a
      → Yields (leaf_ports file limits (node_of at ids (Op (code.Unpack count) (a ∷ []))) given) (HasMembers count)
  unpack-puts count ids given at a has =
      let node = node_of at ids (Op (code.Unpack count) (a ∷ [])) in
      yields-then (count_leaf (if_there (leaf_meaning file limits given node) at.line (λ e. e)))
      (λ v. gives (ports_of node.work v)) (IsTupleOf count) (HasMembers count)
      (subst (λ (o : Option (Evaluation Value)). Yields (count_leaf (if_there o at.line (λ e. e))) (IsTupleOf count))
      (sym meant) (yields_unpack count (items has.0) at.line))
      (λ t is. yields-gives (ports_of node.work t) (HasMembers count) (tuple_members count t is))
    where
      meant :
          leaf_meaning file limits given (node_of at ids (Op (code.Unpack count) (a ∷ [])))
          ≡ Some (settled (operation (code.Unpack count) (has.0 ∷ []) at.line))
      meant =
          λ i. option_map (λ (ws : List Value). settled (operation (code.Unpack count) ws at.line)) (both (has.1.0 i) (Some []))

  -- targets that are bound
  pub targets-bound : (tuple : Bool) (names : List (List ℕ)) (at : Context) (a : Arg) (ids : ℕ) (given : Given)
      → IsStaged file limits at ids given → HasSome ids given a
      → Binds at.routine ids given (bind_targets (locals file at.routine) tuple names at a)
  targets-bound false [] at a ids given has v =
      stop-supplied file limits (HasSlots file limits at.routine) ids given at (Raised ValueError at.line)
  targets-bound false (name ∷ []) at a ids given has v =
      pure-supplied file limits (HasSlots file limits at.routine) ids given (set_slot (locals file at.routine) at.env name a)
      (slot-set at.routine ids given at.env name a has (given-has ids given a v.0 v.1))
  targets-bound false (name ∷ other ∷ names) at a ids given has v =
      stop-supplied file limits (HasSlots file limits at.routine) ids given at (Raised ValueError at.line)
  targets-bound true names at a ids given has v =
      let work : Work = Op (code.Unpack (length names)) (a ∷ []) in
      then-supplied file limits (IsMade (HasMembers (length names))) (HasSlots file limits at.routine) ids given (emit at work)
      (λ id. pure (set_members (locals file at.routine) at.env id 0 names))
      (emit-supplied file limits (HasMembers (length names)) ids given at work (given-values ids given (a ∷ []) (v, tt))
      (have-true ids given (a ∷ []) (v, tt)) (unpack-puts (length names) ids given at a v))
      (λ next mid id later made.
      pure-supplied file limits (HasSlots file limits at.routine) next mid (set_members (locals file at.routine) at.env id 0 names)
      (members-set at.routine next id mid 0 names at.env made.0
      (λ q low. let same : 0 + q ≡ q = omega arith in
      let found = made.1 q low in (found.0, ap (mid id) same ∙ found.1))
      (staged-later file limits at ids next given mid later has)))

  -- the first expression of a statement
  pub header-supplied : (e : Expr) (p : Point) (at : Context) (ids : ℕ) (given : Given) → IsStaged file limits at ids given
      → Gives file limits ids given (header file e p at)
  header-supplied e p at ids given has = expression-supplied file limits e p.expression at ids given has

  -- the slots after an assignment
  pub assigned-bound : (targets : Targets) (e : Expr) (p : Point) (at : Context) (ids : ℕ) (given : Given)
      → IsStaged file limits at ids given
      → Binds at.routine ids given (header file e p at >>> assigned file targets at)
  assigned-bound targets e p at ids given has =
      then-supplied file limits HasSome (HasSlots file limits at.routine) ids given (header file e p at) (assigned file targets at)
      (header-supplied e p at ids given has)
      (λ next mid a later v. targets-bound targets.tuple targets.names at a next mid
      (staged-later file limits at ids next given mid later has) v)

  -- the slots after an augmented assignment
  pub augmented-bound : (name : List ℕ) (op : BinOp) (e : Expr) (p : Point) (at : Context) (ids : ℕ) (given : Given)
      → IsStaged file limits at ids given → Binds at.routine ids given (augmented file name op e p at)
  augmented-bound name op e p at ids given has =
      let Slots = HasSlots file limits at.routine in
      then-supplied file limits HasSome Slots ids given (name_operand file name at)
      (λ a. header file e p at
      >>> (λ b. operator (code.Binary op) (a ∷ b ∷ []) at
      >>> (λ c. pure (set_slot (slots_at file at) at.env name c))))
      (name-supplied file limits name at ids given has)
      (λ next mid a later v. then-supplied file limits HasSome Slots next mid (header file e p at)
      (λ b. operator (code.Binary op) (a ∷ b ∷ []) at
      >>> (λ c. pure (set_slot (slots_at file at) at.env name c)))
      (header-supplied e p at next mid (staged-later file limits at ids next given mid later has))
      (λ last after b more u. then-supplied file limits HasSome Slots last after (operator (code.Binary op) (a ∷ b ∷ []) at)
      (λ c. pure (set_slot (slots_at file at) at.env name c))
      (operator-supplied file limits last after (code.Binary op) (a ∷ b ∷ []) at (λ x. refl)
      (some-later next last mid after a more v, (u, tt)))
      (λ end final c up t. pure-supplied file limits Slots end final (set_slot (slots_at file at) at.env name c)
      (slot-set at.routine end final at.env name c
      (staged-later file limits at last end after final up (staged-later file limits at next last mid after more
      (staged-later file limits at ids next given mid later has)))
      (given-has end final c t.0 t.1)))))

  -- the message of an `assert`
  message-supplied : (message : Option Expr) (n : ℕ) (at : Context) (test : Arg) (ids : ℕ) (given : Given)
      → IsStaged file limits at ids given → HasSome ids given test
      → Gives file limits ids given (message_unfolds file message n at test)
  message-supplied None n at test ids given has v = pure-supplied file limits HasSome ids given test v
  message-supplied (Some e) n at test ids given has v =
      choose-supplied file limits ids given at test (side.Arg (Known value.None)) (side.Expr n) has v
      ((value.None, (refl, tt)), tt) tt

  -- an `assert`
  pub asserted-bound : (message : Option Expr) (n : ℕ) (at : Context) (test : Arg) (ids : ℕ) (given : Given)
      → IsStaged file limits at ids given → HasSome ids given test
      → Binds at.routine ids given (asserted file message n at test)
  asserted-bound message n at test ids given has v =
      let Slots = HasSlots file limits at.routine in
      then-supplied file limits HasSome Slots ids given (message_unfolds file message n at test)
      (λ m. operator code.Assert (test ∷ []) at >>> (λ x. pure at.env))
      (message-supplied message n at test ids given has v)
      (λ next mid m later u. then-supplied file limits HasSome Slots next mid (operator code.Assert (test ∷ []) at)
      (λ x. pure at.env)
      (operator-supplied file limits next mid code.Assert (test ∷ []) at (λ x. refl) (some-later ids next given mid test later v, tt))
      (λ last after x more t. pure-supplied file limits Slots last after at.env
      (staged-later file limits at next last mid after more (staged-later file limits at ids next given mid later has))))
