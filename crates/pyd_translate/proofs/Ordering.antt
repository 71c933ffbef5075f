-- Nodes that are numbered one after another, each naming only what it may: how what makes them keeps that.
use Rattle.std.proofs.Common.{◌≡◌, ◌≤◌, ℕ, suc, ◌+◌, List, [], ◌∷◌, ◌++◌, length, Option, Some, None, Bool, true, false, if◌then◌else◌, refl, subst, arith}
use Rattle.std.proofs.lemmas.List.{length-append}
use Rattle.pyd_value.specs.declared.fault.Fault.{Fault}
use Rattle.pyd_ir.specs.declared.arg.Arg.{Arg}
use Rattle.pyd_ir.specs.declared.arg.Arg.TheVariants.{Known, From, Slot, Unbound}
use Rattle.pyd_ir.specs.declared.node.Node.{Node}
use Rattle.pyd_ir.specs.declared.work.Work.{Work}
use Rattle.pyd_ir.specs.Arguments.{arguments}
use Rattle.pyd_translate.specs.Making.{Piece, Making, Context, pure, carry, ◌>>>◌, emit, stop, emit_value, port}
use Rattle.pyd_translate.specs.Statements.{Done, or_stopped, then_done}
use Rattle.pyd_translate.specs.Matching.{IsBelow, AreBelow}
use Rattle.pyd_translate.specs.Naming.{Naming, IsAmong, AreAmong, IsNamed, AreAllNamed, AreNamed}
use Rattle.pyd_translate.specs.SlotPorts.{has_slots, IsPortOf, ArePortsOf}

-- an argument that names no node from a number on names none from a greater number on
pub below_up : (m n : ℕ) (a : Arg) → m ≤ n → IsBelow m a → IsBelow n a
below_up m n (Known v) le b = tt
below_up m n (From r) le b = omega arith
below_up m n (Slot r) le b = omega arith
below_up m n Unbound le b = tt

-- so do all
pub are_below_up : (m n : ℕ) (args : List Arg) → m ≤ n → AreBelow m args → AreBelow n args
are_below_up m n [] le b = tt
are_below_up m n (a ∷ args) le b = (below_up m n a le b.0, are_below_up m n args le b.1)

module _ (naming : Naming) where
  -- an argument names what a node of this number may name
  abbrev pub IsIn : ℕ → Arg → Type 0
  IsIn n a = IsNamed naming n a

  -- all arguments do
  abbrev pub AreIn : ℕ → List Arg → Type 0
  AreIn n args = AreAllNamed naming n args

  -- what a node may name a later one may
  pub in_up : (m n : ℕ) (a : Arg) → m ≤ n → IsIn m a → IsIn n a
  in_up m n (Known v) le b = tt
  in_up m n (From r) le b = naming.up m n r.node le b
  in_up m n (Slot r) le b = (naming.up m n r.node le b.0, b.1)
  in_up m n Unbound le b = tt

  -- so do all
  pub are_in_up : (m n : ℕ) (args : List Arg) → m ≤ n → AreIn m args → AreIn n args
  are_in_up m n [] le b = tt
  are_in_up m n (a ∷ args) le b = (in_up m n a le b.0, are_in_up m n args le b.1)

  -- arguments and then others
  pub are_below_both : (n : ℕ) (xs ys : List Arg) → AreIn n xs → AreIn n ys
      → AreIn n (xs ++ ys)
  are_below_both n [] ys p q = q
  are_below_both n (x ∷ xs) ys p q = (p.0, are_below_both n xs ys p.1 q)

  -- the first of two lists of arguments
  pub are_left : (n : ℕ) (xs ys : List Arg) → AreIn n (xs ++ ys) → AreIn n xs
  are_left n [] ys p = tt
  are_left n (x ∷ xs) ys p = (p.0, are_left n xs ys p.1)

  -- the second
  pub are_right : (n : ℕ) (xs ys : List Arg) → AreIn n (xs ++ ys) → AreIn n ys
  are_right n [] ys p = p
  are_right n (x ∷ xs) ys p = are_right n xs ys p.1

  -- an argument names one of the numbers
  pub in_among : (n : ℕ) (a : Arg) → IsIn n a → IsAmong (naming.may n) a
  in_among n (Known v) p = tt
  in_among n (From r) p = p
  in_among n (Slot r) p = p.0
  in_among n Unbound p = tt

  -- so do all
  pub are_among : (n : ℕ) (args : List Arg) → AreIn n args → AreAmong (naming.may n) args
  are_among n [] p = tt
  are_among n (a ∷ args) p = (in_among n a p.0, are_among n args p.1)

  -- a slot port is one of a node whose slot ports may be named
  pub in_ports : (n : ℕ) (a : Arg) → IsIn n a → IsPortOf naming.slots a
  in_ports n (Known v) p = tt
  in_ports n (From r) p = tt
  in_ports n (Slot r) p = p.1
  in_ports n Unbound p = tt

  -- so are all
  pub are_ports : (n : ℕ) (args : List Arg) → AreIn n args → ArePortsOf naming.slots args
  are_ports n [] p = tt
  are_ports n (a ∷ args) p = (in_ports n a p.0, are_ports n args p.1)

  -- an argument names one of the numbers, and a slot port is one of a node whose slot ports may be named
  pub among_in : (n : ℕ) (a : Arg) → IsAmong (naming.may n) a → IsPortOf naming.slots a → IsIn n a
  among_in n (Known v) p q = tt
  among_in n (From r) p q = p
  among_in n (Slot r) p q = (p, q)
  among_in n Unbound p q = tt

  -- so do all
  pub among_are : (n : ℕ) (args : List Arg) → AreAmong (naming.may n) args
      → ArePortsOf naming.slots args → AreIn n args
  among_are n [] p q = tt
  among_are n (a ∷ args) p q = (among_in n a p.0 q.0, among_are n args p.1 q.1)

  -- the slot ports of these nodes may be named
  abbrev pub AreMarked : List Node → Type 0
  AreMarked [] = Unit {0}
  AreMarked (n ∷ ns) = (has_slots n.work ≡ true → naming.slots n.id ≡ true) × AreMarked ns

  -- those of all nodes may be, where any may
  pub any_marked : ((k : ℕ) → naming.slots k ≡ true) → (ns : List Node) → AreMarked ns
  any_marked any [] = tt
  any_marked any (n ∷ ns) = (λ has. any n.id, any_marked any ns)

  -- those of the first of two lists of nodes
  marked_left : (xs ys : List Node) → AreMarked (xs ++ ys) → AreMarked xs
  marked_left [] ys p = tt
  marked_left (x ∷ xs) ys p = (p.0, marked_left xs ys p.1)

  -- those of the second
  marked_right : (xs ys : List Node) → AreMarked (xs ++ ys) → AreMarked ys
  marked_right [] ys p = p
  marked_right (x ∷ xs) ys p = marked_right xs ys p.1

  -- nodes and then others
  pub numbered_both : (ids : ℕ) (xs ys : List Node) → AreNamed naming ids xs
      → AreNamed naming (ids + length xs) ys → AreNamed naming ids (xs ++ ys)
  numbered_both ids [] ys p q =
      let number : ids + 0 ≡ ids = omega arith in subst (λ n. AreNamed naming n ys) number q
  numbered_both ids (x ∷ xs) ys p q =
      let number : ids + suc (length xs) ≡ suc ids + length xs = omega arith in
      (p.0, p.1, numbered_both (suc ids) xs ys p.2 (subst (λ n. AreNamed naming n ys) number q))

  -- R of what came of nodes, unless a Stop ended them
  abbrev pub IfThere : {A : Type 0} → (ℕ → A → Type 0) → ℕ → Option A → Type 0
  IfThere R next (Some a) = R next a
  IfThere R next None = Unit {0}

  -- nodes are numbered in order from a number on, and what came of them is R
  pub record InOrder {A : Type 0} (R : ℕ → A → Type 0) (ids : ℕ) (p : Piece A) : Type 0 where
    pub nodes : AreNamed naming ids p.nodes
    pub next : p.next ≡ ids + length p.nodes
    pub got : IfThere R p.next p.got

  -- the nodes that are made from each number on that is neither below the base nor below a least one are in order, where their slot ports may be named
  abbrev pub Orders : {A : Type 0} → (ℕ → A → Type 0) → ℕ → Making A → Type 0
  Orders R least making =
      (ids : ℕ) → naming.base ≤ ids → least ≤ ids → AreMarked (making ids).nodes
      → InOrder R ids (making ids)

  -- what ends statements names no node from a number on
  abbrev pub IsLowDone : ℕ → Done → Type 0
  IsLowDone next d = AreIn next d.env × IsIn next d.value

  -- the number of a node that was made
  abbrev pub IsMade : ℕ → ℕ → Type 0
  IsMade next id = naming.may next id ≡ true

  -- and of one whose slot ports may be named
  abbrev pub IsOpened : ℕ → ℕ → Type 0
  IsOpened next id = (naming.may next id ≡ true) × (naming.slots id ≡ true)

  -- the number behind nodes is no less than that of the first
  grown : (ids next count : ℕ) → next ≡ ids + count → ids ≤ next
  grown ids next count is = omega (arith, is)

  -- nodes in order, and then others
  carry_in_order : {A B : Type 0} (R : ℕ → A → Type 0) (S : ℕ → B → Type 0) (ids : ℕ)
      (nodes : List Node) (got : Option A) (next : ℕ) (f : A → Making B)
      → AreNamed naming ids nodes → next ≡ ids + length nodes → IfThere R next got
      → ((a : A) → ids ≤ next → R next a → AreMarked (f a next).nodes → InOrder S next (f a next))
      → AreMarked (carry nodes got next f).nodes
      → InOrder S ids (carry nodes got next f)
  carry_in_order R S ids nodes None next f numbered is low onward marks =
      record { nodes = numbered; next = is; got = tt }
  carry_in_order R S ids nodes (Some a) next f numbered is low onward marks =
      let behind : InOrder S next (f a next) =
      onward a (grown ids next (length nodes) is) low (marked_right nodes (f a next).nodes marks) in
      let both : length (nodes ++ (f a next).nodes) ≡ length nodes + length (f a next).nodes =
      length-append nodes (f a next).nodes in
      let end : (f a next).next ≡ next + length (f a next).nodes = behind.next in
      record {
        nodes = numbered_both ids nodes (f a next).nodes numbered
            (subst (λ n. AreNamed naming n (f a next).nodes) is behind.nodes);
        next = omega (arith, is, both, end);
        got = behind.got;
      }

  -- the same where a Stop leaves the slots as they were
  stopped_in_order : {A : Type 0} (R : ℕ → A → Type 0) (ids : ℕ) (env : List Arg)
      (nodes : List Node) (got : Option A) (next : ℕ) (f : A → Making Done)
      → AreIn ids env
      → AreNamed naming ids nodes → next ≡ ids + length nodes → IfThere R next got
      → ((a : A) → ids ≤ next → R next a → AreMarked (f a next).nodes
      → InOrder IsLowDone next (f a next))
      → AreMarked (or_stopped env nodes got next f).nodes
      → InOrder IsLowDone ids (or_stopped env nodes got next f)
  stopped_in_order R ids env nodes None next f below numbered is low onward marks = record {
    nodes = numbered;
    next = is;
    got = (are_in_up ids next env (grown ids next (length nodes) is) below, tt);
  }
  stopped_in_order R ids env nodes (Some a) next f below numbered is low onward marks =
      let all = carry_in_order R IsLowDone ids nodes (Some a) next f numbered is low onward marks in
      record { nodes = all.nodes; next = all.next; got = all.got }

  -- the slot ports of the first nodes may be named
  carried_first : {A B : Type 0} (nodes : List Node) (got : Option A) (next : ℕ) (f : A → Making B)
      → AreMarked (carry nodes got next f).nodes → AreMarked nodes
  carried_first nodes None next f marks = marks
  carried_first nodes (Some a) next f marks = marked_left nodes (f a next).nodes marks

  -- the same where a Stop leaves the slots as they were
  stopped_first : {A : Type 0} (env : List Arg) (nodes : List Node) (got : Option A) (next : ℕ)
      (f : A → Making Done) → AreMarked (or_stopped env nodes got next f).nodes → AreMarked nodes
  stopped_first env nodes None next f marks = marks
  stopped_first env nodes (Some a) next f marks = marked_left nodes (f a next).nodes marks

  -- one piece in order, and then the next
  pub then_orders : {A B : Type 0} (R : ℕ → A → Type 0) (S : ℕ → B → Type 0) (least : ℕ)
      (u : Making A) (f : A → Making B)
      → Orders R least u
      → ((a : A) (next : ℕ) → least ≤ next → R next a → Orders S next (f a))
      → Orders S least (u >>> f)
  unfolding ◌>>>◌
  then_orders R S least u f first onward ids from le marks =
      let start =
      first ids from le (carried_first (u ids).nodes (u ids).got (u ids).next f marks) in
      let same : (n : ℕ) → n ≤ n = λ n. omega arith in
      carry_in_order R S ids (u ids).nodes (u ids).got (u ids).next f start.nodes start.next start.got
      (λ a grows low. onward a (u ids).next (omega arith) low (u ids).next (omega arith) (same (u ids).next))
      marks

  -- what a statement evaluates, and then what it does
  pub done_orders : {A : Type 0} (R : ℕ → A → Type 0) (least : ℕ) (env : List Arg)
      (u : Making A) (f : A → Making Done)
      → AreIn least env
      → Orders R least u
      → ((a : A) (next : ℕ) → least ≤ next → R next a → Orders IsLowDone next (f a))
      → Orders IsLowDone least (then_done env u f)
  unfolding then_done
  done_orders R least env u f below first onward ids from le marks =
      let start =
      first ids from le (stopped_first env (u ids).nodes (u ids).got (u ids).next f marks) in
      let same : (n : ℕ) → n ≤ n = λ n. omega arith in
      stopped_in_order R ids env (u ids).nodes (u ids).got (u ids).next f
      (are_in_up least ids env le below) start.nodes start.next start.got
      (λ a grows low. onward a (u ids).next (omega arith) low (u ids).next (omega arith) (same (u ids).next))
      marks

  -- no node
  pub pure_orders : {A : Type 0} (R : ℕ → A → Type 0) (least : ℕ) (a : A)
      → ((ids : ℕ) → least ≤ ids → R ids a) → Orders R least (pure a)
  unfolding pure
  pure_orders R least a low ids from le marks = record { nodes = tt; next = omega arith; got = low ids le }

  -- an argument, with no node
  pub pure_below : (least : ℕ) (a : Arg) → IsIn least a → Orders IsIn least (pure a)
  pure_below least a b = pure_orders IsIn least a (λ ids le. in_up least ids a le b)

  -- arguments, with no node
  pub pure_are_below : (least : ℕ) (args : List Arg) → AreIn least args
      → Orders AreIn least (pure args)
  pure_are_below least args b =
      pure_orders AreIn least args (λ ids le. are_in_up least ids args le b)

  -- one node, and its number
  pub emit_orders : (least : ℕ) (at : Context) (work : Work) → AreIn least (arguments work)
      → Orders IsMade least (emit at work)
  unfolding emit
  emit_orders least at work below ids from le marks = record {
    nodes = (refl, are_in_up least ids (arguments work) le below, tt);
    next = omega arith;
    got = naming.made (suc ids) ids from (omega arith);
  }

  -- one node that has slot ports
  pub opened_orders : (least : ℕ) (at : Context) (work : Work) → AreIn least (arguments work)
      → has_slots work ≡ true → Orders IsOpened least (emit at work)
  unfolding emit
  opened_orders least at work below has ids from le marks =
      let one = emit_orders least at work below ids from le marks in
      record { nodes = one.nodes; next = one.next; got = (one.got, marks.0 has) }

  -- one node, and its value
  pub value_orders : (least : ℕ) (at : Context) (work : Work) → AreIn least (arguments work)
      → Orders IsIn least (emit_value at work)
  value_orders least at work below =
      then_orders IsMade IsIn least (emit at work) (λ id. pure (From (port id 0)))
      (emit_orders least at work below)
      (λ id next le made. pure_below next (From (port id 0)) made)

  -- a Stop, whatever would have come of it
  pub stop_orders : {A : Type 0} (R : ℕ → A → Type 0) (least : ℕ) (at : Context) (fault : Fault)
      → Orders R least (stop at fault)
  unfolding stop
  stop_orders R least at fault ids from le marks =
      record { nodes = (refl, tt, tt); next = omega arith; got = tt }

  -- one of two
  pub if_orders : {A : Type 0} (R : ℕ → A → Type 0) (least : ℕ) (which : Bool) (u v : Making A)
      → Orders R least u → Orders R least v → Orders R least (if which then u else v)
  if_orders R least true u v p q = p
  if_orders R least false u v p q = q

  -- in order from a greater least number on
  pub orders_up : {A : Type 0} (R : ℕ → A → Type 0) (least more : ℕ) (u : Making A)
      → least ≤ more → Orders R least u → Orders R more u
  orders_up R least more u le p ids from up marks = p ids from (omega arith) marks
