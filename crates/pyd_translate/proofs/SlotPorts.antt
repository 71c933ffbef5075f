-- The slot ports that the nodes of a piece name are those that it was given, or of composites before them in it.
use Rattle.std.proofs.Common.{◌≡◌, ◌<◌, ℕ, suc, nat_eq, Bool, true, false, List, [], ◌∷◌, Option, Some, None, refl, subst, arith}
use Rattle.std.specs.Prelude.{◌&&◌, ◌||◌}
use Rattle.std.proofs.lemmas.Bool.Decides.{nat_tests}
use Rattle.pyd_names.specs.Binding.{module_variables}
use Rattle.pyd_ir.specs.declared.arg.Arg.{Arg}
use Rattle.pyd_ir.specs.declared.arg.Arg.TheVariants.{Known, From, Slot, Unbound}
use Rattle.pyd_ir.specs.declared.node.Node.{Node}
use Rattle.pyd_ir.specs.declared.work.Work.{Work}
use Rattle.pyd_ir.specs.declared.work.Work.TheVariants.{Op, Read, Call, Stop, Print, Run, Cond, While, For, Pick, Enter}
use Rattle.pyd_ir.specs.Arguments.{arguments, rest_arguments, side_arguments, is_composite}
use Rattle.pyd_scope.specs.Numbering.{body, start}
use Rattle.pyd_translate.specs.Slots.{unbound_slots}
use Rattle.pyd_translate.specs.Sides.{side_unfolds}
use Rattle.pyd_translate.specs.Statements.{Done, context}
use Rattle.pyd_translate.specs.Rests.{block_unfolds}
use Rattle.pyd_translate.specs.Matching.{AreBelow}
use Rattle.pyd_translate.specs.Naming.{Numbers, AreNamed}
use Rattle.pyd_translate.specs.SlotPorts.{has_slots, IsPortOf, ArePortsOf, and_slots, and_all_slots, HavePorts, IsDoneOf, IsValueOf, BlockPorts, SidePorts, no_numbers, ScriptPorts, LeafPorts}
use Rattle.pyd_translate.proofs.Ordering.{IsIn, AreIn, in_ports, are_ports, AreMarked, IfThere, IsLowDone}
use Rattle.pyd_translate.proofs.UnfoldedOrder.{side_orders}
use Rattle.pyd_translate.proofs.RestOrder.{before_with, less_is, are_with, block_names}

-- the second of two is true
second_true : (a b : Bool) → b ≡ true → (a || b) ≡ true
second_true true b e = refl
second_true false b e = e

-- the second of two is true where the first isn't
pub only_second : (a b c : Bool) → b ≡ false → ((a && b) || c) ≡ true → c ≡ true
only_second true true c e p = absurd (cc e)
only_second true false c e p = p
only_second false b c e p = p

-- a number below another isn't that
is_other : (m n low : ℕ) → m < low → n ≡ low → nat_eq m n ≡ false
is_other m n low lt e = grind (arith, nat_tests)

is_itself : (n : ℕ) → nat_eq n n ≡ true
is_itself n = grind (arith, nat_tests)

-- the slot ports of these nodes may still be named behind others
pub still_open : (known : Numbers) (ns : List Node) (k : ℕ) → known k ≡ true
    → and_all_slots known ns k ≡ true
still_open known [] k p = p
still_open known (n ∷ ns) k p =
    still_open (and_slots known n) ns k
    (second_true (has_slots n.work && nat_eq k n.id) (known k) p)

-- a slot port of one of these nodes is one of any that are more
pub port_more : (known more : Numbers) → ((k : ℕ) → known k ≡ true → more k ≡ true)
    → (a : Arg) → IsPortOf known a → IsPortOf more a
port_more known more into (Known v) p = tt
port_more known more into (From r) p = tt
port_more known more into (Slot r) p = into r.node p
port_more known more into Unbound p = tt

-- so are all
pub ports_more : (known more : Numbers) → ((k : ℕ) → known k ≡ true → more k ≡ true)
    → (args : List Arg) → ArePortsOf known args → ArePortsOf more args
ports_more known more into [] p = tt
ports_more known more into (a ∷ args) p =
    (port_more known more into a p.0, ports_more known more into args p.1)

-- a node that has slot ports is one of these
own_open : (known : Numbers) (n : Node) → has_slots n.work ≡ true → and_slots known n n.id ≡ true
own_open known n has =
    (λ i. (has i && is_itself n.id i) || known n.id)

module _ (all : Numbers) where
  -- nodes whose slot ports may be named
  pub own_marked : (known : Numbers) (ns : List Node)
      → ((k : ℕ) → and_all_slots known ns k ≡ true → all k ≡ true) → AreMarked (before_with all) ns
  own_marked known [] into = tt
  own_marked known (n ∷ ns) into = (
    λ has. into n.id (still_open (and_slots known n) ns n.id (own_open known n has)),
    own_marked (and_slots known n) ns into,
  )

  -- of the nodes whose slot ports may be named behind nodes that are numbered in order, those with lower numbers were given
  early : (known : Numbers) (ids : ℕ) (ns : List Node) (k : ℕ) → AreNamed (before_with all) ids ns
      → k < ids → and_all_slots known ns k ≡ true → known k ≡ true
  early known ids [] k named lt p = p
  early known ids (n ∷ ns) k named lt p =
      only_second (has_slots n.work) (nat_eq k n.id) (known k) (is_other k n.id ids lt named.0)
      (early (and_slots known n) (suc ids) ns k named.2 (omega (arith, lt)) p)

  module _ (known : Numbers) (ids : ℕ) (onto : (k : ℕ) → k < ids → all k ≡ true → known k ≡ true) where
    -- a slot port that the first node names
    early_port : (a : Arg) → IsIn (before_with all) ids a → IsPortOf known a
    early_port (Known v) p = tt
    early_port (From r) p = tt
    early_port (Slot r) p = onto r.node (less_is r.node ids p.0) p.1
    early_port Unbound p = tt

    -- all of them
    early_ports : (args : List Arg) → AreIn (before_with all) ids args → ArePortsOf known args
    early_ports [] p = tt
    early_ports (a ∷ args) p = (early_port a p.0, early_ports args p.1)

  -- the slot ports that nodes name were given, or are of nodes before them
  pub have_ports : (known : Numbers) (ids : ℕ) (ns : List Node) → AreNamed (before_with all) ids ns
      → ((k : ℕ) → all k ≡ true → and_all_slots known ns k ≡ true) → HavePorts known ns
  have_ports known ids [] named onto = tt
  have_ports known ids (n ∷ ns) named onto = (
    early_ports known ids (λ k lt p. early known ids (n ∷ ns) k named lt (onto k p))
        (arguments n.work) named.1,
    have_ports (and_slots known n) (suc ids) ns named.2 onto,
  )

  -- what came of statements names slot ports that may be named
  done_ports : (next : ℕ) (got : Option Done)
      → IfThere (before_with all) (IsLowDone (before_with all)) next got → IsDoneOf all got
  done_ports next None low = tt
  done_ports next (Some d) low =
      (are_ports (before_with all) next d.env low.0, in_ports (before_with all) next d.value low.1)

  -- so does what came of a value
  value_ports : (next : ℕ) (got : Option Arg)
      → IfThere (before_with all) (IsIn (before_with all)) next got → IsValueOf all got
  value_ports next None low = tt
  value_ports next (Some a) low = in_ports (before_with all) next a low

-- the slot ports that the nodes of statements name
pub block_ports : BlockPorts
block_ports file routine depth here rest ids env known below low rests slots =
    let p = block_unfolds file routine depth here rest env ids in
    let all = and_all_slots known p.nodes in
    let into = still_open known p.nodes in
    let order =
    block_names (before_with all) file routine depth here rest ids env (omega arith)
    (are_with all ids (rest_arguments rest) below (ports_more known all into (rest_arguments rest) rests))
    (are_with all ids env low (ports_more known all into env slots))
    (own_marked all known p.nodes (λ k q. q)) in
    record {
      nodes = have_ports all known ids p.nodes order.nodes (λ k q. q);
      got = done_ports all p.next p.got order.got;
    }

-- those that the nodes of a side name
pub side_ports : SidePorts
side_ports file routine depth line s ids env known below low sides slots =
    let at = context routine depth line env in
    let p = side_unfolds file s at ids in
    let all = and_all_slots known p.nodes in
    let into = still_open known p.nodes in
    let order =
    side_orders (before_with all) file s at ids
    (are_with all ids env low (ports_more known all into env slots))
    (are_with all ids (side_arguments s) below (ports_more known all into (side_arguments s) sides))
    ids (omega arith) (omega arith) (own_marked all known p.nodes (λ k q. q)) in
    record {
      nodes = have_ports all known ids p.nodes order.nodes (λ k q. q);
      got = value_ports all p.next p.got order.got;
    }

-- slots of which none is bound name no node
unbound_below : {A : Type 0} (ids : ℕ) (slots : List A) → AreBelow ids (unbound_slots slots)
unbound_below ids [] = tt
unbound_below ids (slot ∷ slots) = (tt, unbound_below ids slots)

-- and have no slot port among them
unbound_ports : {A : Type 0} (known : Numbers) (slots : List A) → ArePortsOf known (unbound_slots slots)
unbound_ports known [] = tt
unbound_ports known (slot ∷ slots) = (tt, unbound_ports known slots)

-- those that the nodes of a script name
pub script_ports : ScriptPorts
script_ports file =
    (block_ports file 0 0 (record { stmts = body file 0; point = start }) [] 0
    (unbound_slots (module_variables file)) no_numbers tt
    (unbound_below 0 (module_variables file)) tt (unbound_ports no_numbers (module_variables file))).nodes

-- a leaf has no slot ports
leaf_open : (w : Work) → is_composite w ≡ false → has_slots w ≡ false
leaf_open (Op op args) e = refl
leaf_open (Read arg kind) e = refl
leaf_open (Call func args) e = refl
leaf_open (Stop fault) e = refl
leaf_open (Print args) e = refl
leaf_open (Run func args) e = refl
leaf_open (Cond test stmt arm rest env) e = absurd (cc e)
leaf_open (While test stmt turns rest env) e = absurd (cc e)
leaf_open (For over stmt turns rest env) e = absurd (cc e)
leaf_open (Pick test first second env) e = refl
leaf_open (Enter func args) e = refl

-- no later node names a slot port of a leaf
pub leaf_ports : LeafPorts
leaf_ports known n ns leaf have =
    subst (λ b. HavePorts (λ k. (b && nat_eq k n.id) || known k) ns) (leaf_open n.work leaf) have.1
