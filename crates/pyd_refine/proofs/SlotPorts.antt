-- Refining keeps that the slot ports which nodes name are of composites before them.
use Rattle.std.proofs.Common.{◌≡◌, ℕ, zero, suc, List, [], ◌∷◌, ◌++◌, map, refl, sym, ap, subst, ◌∙◌, arith, inl, inr, ◌⊎◌, nat_eq, Bool, true, false, if◌then◌else◌, Option, Some, None}
use Rattle.std.specs.Prelude.{◌&&◌, ◌||◌}
use Rattle.pyd_ir.specs.declared.arg.Arg.{Arg}
use Rattle.pyd_ir.specs.declared.arg.Arg.TheVariants.{Known, From, Slot, Unbound}
use Rattle.pyd_ir.specs.declared.node.Node.{Node}
use Rattle.pyd_ir.specs.declared.work.Work.{Work}
use Rattle.pyd_ir.specs.declared.work.Work.TheVariants.{Op, Read, Call, Stop, Print, Run, Cond, While, For, Pick, Enter}
use Rattle.pyd_ir.specs.Arguments.{arguments, rest_arguments}
use Rattle.pyd_translate.specs.Statements.{Done}
use Rattle.pyd_translate.specs.Starts.{done_or_stopped}
use Rattle.pyd_translate.specs.Matching.{IsBelow, AreBelow}
use Rattle.pyd_translate.specs.Naming.{Numbers, IsAmong, AreAmong}
use Rattle.pyd_translate.specs.SlotPorts.{has_slots, IsPortOf, ArePortsOf, and_slots, and_all_slots, HavePorts}
use Rattle.pyd_translate.proofs.Ordering.{in_ports, are_ports, IfThere, IsLowDone}
use Rattle.pyd_translate.proofs.RestOrder.{before_with, are_with}
use Rattle.pyd_translate.proofs.SlotPorts.{only_second, still_open, ports_more, own_marked, have_ports}
use Rattle.pyd_refine.specs.Composites.{slots_of, refined, refined_piece}
use Rattle.pyd_refine.specs.Redirecting.{image, images, piece_images, redirect, redirect_all, redirect_work, redirect_node, replaced_by}
use Rattle.pyd_refine.specs.Ordering.{and_nodes, LieBelow}
use Rattle.pyd_refine.specs.SlotPorts.{PiecePorts, RefinedPorts}
use Rattle.pyd_refine.proofs.Ordering.{second-true, one-true, nodes-below, ordered-left, ordered-right}
use Rattle.pyd_refine.proofs.Redirecting.{work-redirects}
use Rattle.pyd_refine.proofs.Newness.{work-orders}

-- what names known numbers names none from the next number on
known-below : (known : Numbers) (ids : ℕ) → LieBelow known ids → (a : Arg) → IsAmong known a → IsBelow ids a
known-below known ids below (Known v) p = tt
known-below known ids below (From r) p = below r.node p
known-below known ids below (Slot r) p = below r.node p
known-below known ids below Unbound p = tt

-- the same of lists
all-below : (known : Numbers) (ids : ℕ) → LieBelow known ids → (args : List Arg) → AreAmong known args → AreBelow ids args
all-below known ids below [] p = tt
all-below known ids below (a ∷ args) p = (known-below known ids below a p.0, all-below known ids below args p.1)

module _ (slots : Numbers) where
  -- the slot ports of two lists of arguments
  ports-both : (xs ys : List Arg) → ArePortsOf slots xs → ArePortsOf slots ys → ArePortsOf slots (xs ++ ys)
  ports-both [] ys p q = q
  ports-both (x ∷ xs) ys p q = (p.0, ports-both xs ys p.1 q)

  -- those of the second
  ports-second : (xs ys : List Arg) → ArePortsOf slots (xs ++ ys) → ArePortsOf slots ys
  ports-second [] ys p = p
  ports-second (x ∷ xs) ys p = ports-second xs ys p.1

  -- the slots that have ports are arguments
  slots-ports : (w : Work) → ArePortsOf slots (arguments w) → ArePortsOf slots (slots_of w)
  slots-ports (Op op args) p = tt
  slots-ports (Read arg kind) p = tt
  slots-ports (Call func args) p = tt
  slots-ports (Stop fault) p = tt
  slots-ports (Print args) p = tt
  slots-ports (Run func args) p = tt
  slots-ports (Cond test k arm rest env) p = ports-second (rest_arguments rest) env p.1
  slots-ports (While test k turns rest env) p = ports-second (rest_arguments rest) env p.1
  slots-ports (For over k turns rest env) p = ports-second (rest_arguments rest) env p.1
  slots-ports (Pick test first second env) p = tt
  slots-ports (Enter func args) p = tt

  -- what stands in the place of a port
  image-port : (ports : List Arg) (port : ℕ) → ArePortsOf slots ports → IsPortOf slots (image ports port)
  image-port [] port p = tt
  image-port (a ∷ args) zero p = p.0
  image-port (a ∷ args) (suc port) p = image-port args port p.1

-- what stands in the place of a composite's ports
images-ports : (slots all : Numbers) → ((k : ℕ) → slots k ≡ true → all k ≡ true)
    → (env : List Arg) (next : ℕ) (got : Option Done)
    → IfThere (before_with all) (IsLowDone (before_with all)) next got → ArePortsOf slots env
    → ArePortsOf all (images (done_or_stopped env got).env (done_or_stopped env got).value)
images-ports slots all into env next (Some d) low is =
    ports-both all d.env (d.value ∷ []) (are_ports (before_with all) next d.env low.0)
    (in_ports (before_with all) next d.value low.1, tt)
images-ports slots all into env next None low is =
    ports-both all env (Unbound ∷ []) (ports_more slots all into env is) (tt, tt)

-- the slot ports that the piece of a composite names
pub piece-ports : PiecePorts
piece-ports file limits node chosen ids known slots below is ports =
    let p = refined file limits node chosen ids in
    let all = and_all_slots slots p.nodes in
    let into = still_open slots p.nodes in
    let order =
    work-orders (before_with all) file limits node.work node chosen ids
    (are_with all ids (arguments node.work) (all-below known ids below (arguments node.work) is)
    (ports_more slots all into (arguments node.work) ports))
    ids (omega arith) (omega arith) (own_marked all slots p.nodes (λ k q. q)) in
    record {
      nodes = have_ports all slots ids p.nodes order.nodes (λ k q. q);
      ports =
          images-ports slots all into (slots_of node.work) p.next p.got order.got
          (slots-ports slots node.work ports);
    }

-- the first of two lists
ports-left : (slots : Numbers) (xs ys : List Node) → HavePorts slots (xs ++ ys) → HavePorts slots xs
ports-left slots [] ys have = tt
ports-left slots (x ∷ xs) ys have = (have.0, ports-left (and_slots slots x) xs ys have.1)

-- the second, behind the first
ports-right : (slots : Numbers) (xs ys : List Node) → HavePorts slots (xs ++ ys) → HavePorts (and_all_slots slots xs) ys
ports-right slots [] ys have = have
ports-right slots (x ∷ xs) ys have = ports-right (and_slots slots x) xs ys have.1

-- one list, and another behind it
ports-append : (slots : Numbers) (xs ys : List Node) → HavePorts slots xs
    → HavePorts (and_all_slots slots xs) ys → HavePorts slots (xs ++ ys)
ports-append slots [] ys have behind = behind
ports-append slots (x ∷ xs) ys have behind = (have.0, ports-append (and_slots slots x) xs ys have.1 behind)

module _ (id : ℕ) (ports : List Arg) where
  -- a redirected node has slot ports where the node has
  has-kept : (w : Work) → has_slots (redirect_work id ports w) ≡ has_slots w
  has-kept (Op op args) = refl
  has-kept (Read arg kind) = refl
  has-kept (Call func args) = refl
  has-kept (Stop fault) = refl
  has-kept (Print args) = refl
  has-kept (Run func args) = refl
  has-kept (Cond test k arm rest env) = refl
  has-kept (While test k turns rest env) = refl
  has-kept (For over k turns rest env) = refl
  has-kept (Pick test first second env) = refl
  has-kept (Enter func args) = refl

  module _ (slots more : Numbers) (into : (k : ℕ) → slots k ≡ true → nat_eq k id ≡ false → more k ≡ true)
      (fit : ArePortsOf more ports) where
    -- what named node id names what stands in the place of its ports
    port-if : (a : Arg) (port : ℕ) (t : Bool) → (t ≡ false → IsPortOf more a)
        → IsPortOf more (if t then image ports port else a)
    port-if a port true f = image-port more ports port fit
    port-if a port false f = f refl

    -- a redirected argument is no slot port of node id
    redirect-port : (a : Arg) → IsPortOf slots a → IsPortOf more (redirect id ports a)
    redirect-port (Known v) p = tt
    redirect-port (From r) p = port-if (From r) r.port (nat_eq r.node id) (λ e. tt)
    redirect-port (Slot r) p = port-if (Slot r) r.port (nat_eq r.node id) (λ e. into r.node p e)
    redirect-port Unbound p = tt

    -- none of a list is
    redirect-all-ports : (args : List Arg) → ArePortsOf slots args → ArePortsOf more (redirect_all id ports args)
    redirect-all-ports [] p = tt
    redirect-all-ports (a ∷ args) p = (redirect-port a p.0, redirect-all-ports args p.1)

    -- one node more on both sides
    one-node-into : (n : Node) (k : ℕ) → and_slots slots n k ≡ true → nat_eq k id ≡ false
        → and_slots more (redirect_node id ports n) k ≡ true
    one-node-into n k p apart =
        (λ i. (has-kept n.work i && nat_eq k n.id) || more k)
        ∙ go (one-true (has_slots n.work && nat_eq k n.id) (slots k) p)
      where
        go : ((has_slots n.work && nat_eq k n.id) ≡ true) ⊎ (slots k ≡ true)
            → ((has_slots n.work && nat_eq k n.id) || more k) ≡ true
        go (inl q) = ap (λ b. b || more k) q
        go (inr q) = second-true (has_slots n.work && nat_eq k n.id) (more k) (into k q apart)

  -- later nodes, with what stands in the place of node id
  redirected-ports : (slots more : Numbers) (ns : List Node)
      → ((k : ℕ) → slots k ≡ true → nat_eq k id ≡ false → more k ≡ true)
      → ArePortsOf more ports → HavePorts slots ns → HavePorts more (map (redirect_node id ports) ns)
  redirected-ports slots more [] into fit have = tt
  redirected-ports slots more (n ∷ ns) into fit have =
      let next = redirect_node id ports n in (
        subst (ArePortsOf more) (sym (work-redirects id ports n.work))
            (redirect-all-ports slots more into fit (arguments n.work) have.0),
        redirected-ports (and_slots slots n) (and_slots more next) ns
            (one-node-into slots more into fit n)
            (ports_more more (and_slots more next)
            (λ k p. second-true (has_slots next.work && nat_eq k next.id) (more k) p) ports fit) have.1,
      )

-- with the piece of a composite in its place, the slot ports that nodes name are again of nodes before them
pub refined-ports : RefinedPorts
refined-ports file limits known ids slots before node after chosen below order have =
    let here = and_nodes known before in
    let open-here = and_all_slots slots before in
    let right = ordered-right known ids before (node ∷ after) order in
    let low = nodes-below known ids before (ordered-left known ids before (node ∷ after) order) below in
    let behind = ports-right slots before (node ∷ after) have in
    let place = refined_piece file limits node chosen ids in
    let piece = piece-ports file limits node chosen ids here open-here low right.2 behind.0 in
    ports-append slots before (replaced_by node.id place after) (ports-left slots before (node ∷ after) have)
    (ports-append open-here place.nodes (map (redirect_node node.id (piece_images place)) after) piece.nodes
    (redirected-ports node.id (piece_images place) (and_slots open-here node)
    (and_all_slots open-here place.nodes) after
    (λ k p apart. still_open open-here place.nodes k
    (only_second (has_slots node.work) (nat_eq k node.id) (open-here k) apart p))
    piece.ports behind.1))
