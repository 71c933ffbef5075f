-- A composite that is refined keeps what holds.
use Rattle.std.proofs.Common.{◌≡◌, ◌<◌, ℕ, Bool, true, ◌||◌, List, ◌∷◌, ◌++◌, Option, None, Some, is_some, inl, inr, refl, ap, sym, ◌∙◌, subst}
use Rattle.std.specs.Prelude.{IsTrue, Ok}
use Rattle.std.specs.List.{Contains}
use Rattle.std.proofs.lemmas.List.Elements.{Contains-append_right}
use Rattle.pyd_value.specs.declared.value.Value.{Value}
use Rattle.pyd_meaning.specs.declared.ran.Ran.{Ran}
use Rattle.pyd_ir.specs.declared.arg.Arg.{Arg}
use Rattle.pyd_ir.specs.declared.arg.Arg.TheVariants.{Known, From, Slot, Unbound}
use Rattle.pyd_ir.specs.declared.node.Node.{Node}
use Rattle.pyd_ir.specs.declared.work.Work.{Work}
use Rattle.pyd_ir.specs.declared.work.Work.TheVariants.{Op, Read, Call, Stop, Print, Run, Cond, While, For, Pick, Enter}
use Rattle.pyd_ir.specs.Arguments.{is_composite, arguments, control}
use Rattle.pyd_ir.specs.Inputs.{Given, value_of, has_value}
use Rattle.pyd_ir.specs.Ports.{Ports}
use Rattle.pyd_translate.specs.declared.piece.Piece.{Piece}
use Rattle.pyd_translate.specs.Walk.{walk}
use Rattle.pyd_translate.specs.SlotPorts.{HavePorts, no_numbers}
use Rattle.pyd_translate.specs.Supplied.{AreSupplied}
use Rattle.pyd_refine.specs.Ordering.{IsOrdered, LieBelow, and_nodes}
use Rattle.pyd_refine.specs.Readiness.{Yields, control_value, value_if_there}
use Rattle.pyd_refine.specs.Redirecting.{replaced}
use Rattle.pyd_refine.proofs.Ordering.{ordered-right}
use Rattle.pyd_refine.proofs.Redirecting.{found}
use Rattle.pyd_refine.proofs.Refining.{refines}
use Rattle.pyd_refine.proofs.Newness.{piece-new}
use Rattle.pyd_refine.proofs.Needs.{ready}
use Rattle.pyd_refine.proofs.SlotPorts.{refined-ports}
use Rattle.pyd_refine.proofs.Supply.{supplies}
use Rattle.pyd_runs.specs.Plans.{Plan, limits_of}
use Rattle.pyd_runs.specs.Graphs.{Graph, nodes, end_at}
use Rattle.pyd_runs.specs.Desks.{Desk, Stores}
use Rattle.pyd_runs.specs.Records.{recorded, node_at}
use Rattle.pyd_runs.specs.Reach.{IsOf, AreOf}
use Rattle.pyd_runs.specs.Growth.{piece_for, grown_by, grown}
use Rattle.pyd_runs.specs.Effects.{State, acted}
use Rattle.pyd_runs.specs.Enabled.{CanRefine, IsControlled}
use Rattle.pyd_runs.specs.Sound.{IsSound, IsGraphSound, IsDeskSound, seen, sight, stands, is_over}
use Rattle.pyd_runs.specs.Laws.{RefineLaw}
use Rattle.pyd_runs.proofs.Without.{here, or_true}
use Rattle.pyd_runs.proofs.Seeing.{seen_else, known_fresh}
use Rattle.pyd_runs.proofs.Standing.{list_apart, list_below, node_found, same_node, stands_node}
use Rattle.pyd_runs.proofs.Within.{some_there}
use Rattle.pyd_runs.proofs.Knowing.{present, recorded_seen}
use Rattle.pyd_runs.proofs.Redirected.{split_at, named, among_named, named_of, some_of, order_names}
use Rattle.pyd_runs.proofs.Leading.{seen_leaf, seen_append, walk_within}
use Rattle.pyd_runs.proofs.Growing.{growing, IsGrowing}
use Rattle.pyd_runs.proofs.Refining.{state_grown}

-- a control is an argument
control_named : (w : Work) (a : Arg) (j : ℕ) → control w ≡ Some a → IsOf j a
    → AreOf j (arguments w)
control_named (Op op args) a j is of = absurd (cc (is))
control_named (Read arg kind) a j is of = absurd (cc (is))
control_named (Call func args) a j is of = absurd (cc (is))
control_named (Stop fault) a j is of = absurd (cc (is))
control_named (Print args) a j is of = absurd (cc (is))
control_named (Run func args) a j is of = absurd (cc (is))
control_named (Cond test stmt arm rest env) a j is of =
    let same : a ≡ test = cc (is) in inl (subst (IsOf j) same of)
control_named (While test stmt turns rest env) a j is of =
    let same : a ≡ test = cc (is) in inl (subst (IsOf j) same of)
control_named (For over stmt turns rest env) a j is of =
    let same : a ≡ over = cc (is) in inl (subst (IsOf j) same of)
control_named (Pick test first second env) a j is of =
    let same : a ≡ test = cc (is) in inl (subst (IsOf j) same of)
control_named (Enter func args) a j is of = absurd (cc (is))

module _ (p : Plan) (g : Graph) (d : Desk) (lost : ℕ → Bool) (before : List Node) (c : Node)
    (after : List Node) (sound : IsGraphSound p g) (h : IsDeskSound p g d lost)
    (split : g.chain ≡ before ++ c ∷ after) where
  order : IsOrdered (is_over g) g.next (before ++ c ∷ after)
  order = subst (IsOrdered (is_over g) g.next) split sound.listed

  behind : IsOrdered (and_nodes (is_over g) before) g.next (c ∷ after)
  behind = ordered-right (is_over g) g.next before (c ∷ after) order

  there : Contains g.chain c
  there = subst (λ (ns : List Node). Contains ns c) (sym split)
      (Contains-append_right before (c ∷ after) c (here c after))

  -- what is seen of a node that the composite names is seen before it
  seen_before : (j port : ℕ) → AreOf j (arguments c.work)
      → sight p g j port ≡ seen p g.given before j port
  seen_before j port of =
      ap (λ (f : Given). f j port)
      (ap (seen p g.given) split ∙ seen_append p g.given before (c ∷ after))
      ∙ ap (λ (f : Ports). f port)
      (seen_else p (seen p g.given before) (c ∷ after) j
      (known_fresh (and_nodes (is_over g) before) g.next (c ∷ after) j behind
      (some_of (and_nodes (is_over g) before) (arguments c.work) j behind.2 of)))

  -- and may be named
  named_present : (j : ℕ) → AreOf j (arguments c.work) → present g j ≡ true
  named_present j of = elim (order_names (is_over g) g.next g.chain c j sound.listed there of) [
    | inl over ↦ ap (λ b. b || stands j g.chain) over
    | inr chain ↦ ap (λ b. is_over g j || b) chain ∙ or_true (is_over g j)
  ]

  -- what is recorded of such a node is given where the walk leads
  port_same : (reached : Given) (j port : ℕ) → (walk p.file (limits_of p) before g.given).result ≡ Ok reached
      → AreOf j (arguments c.work) → IsTrue (is_some (recorded g d.stores j port))
      → reached j port ≡ recorded g d.stores j port
  port_same reached j port leads of has =
      let v = some_there (recorded g d.stores j port) has in
      let seen_here = recorded_seen p g d lost sound h j port v.0 (named_present j of) v.1 in
      let within = walk_within p before g.given g.given reached (λ i q w e. e) leads in
      within j port v.0 (sym (seen_before j port of) ∙ seen_here) ∙ sym v.1

  arg_same : (reached : Given) (a : Arg)
      → (walk p.file (limits_of p) before g.given).result ≡ Ok reached
      → ((j : ℕ) → IsOf j a → AreOf j (arguments c.work))
      → IsTrue (has_value (recorded g d.stores) a)
      → value_of reached a ≡ value_of (recorded g d.stores) a
  arg_same reached (Known v) leads of has = refl
  arg_same reached (From r) leads of has =
      port_same reached r.node r.port leads (of r.node refl) has
  arg_same reached (Slot r) leads of has =
      port_same reached r.node r.port leads (of r.node refl) has
  arg_same reached Unbound leads of has = refl

  -- the control has there what is recorded of it
  control_same : IsControlled (recorded g d.stores) (control c.work)
      → Yields (walk p.file (limits_of p) before g.given)
      (λ reached. control_value reached c.work ≡ control_value (recorded g d.stores) c.work)
  control_same controlled reached leads = by_control (control c.work) refl controlled
    where
      by_control : (o : Option Arg) → control c.work ≡ o
          → IsControlled (recorded g d.stores) o
          → value_if_there reached o ≡ value_if_there (recorded g d.stores) o
      by_control None is has = refl
      by_control (Some a) is has =
          arg_same reached a leads (λ j of. control_named c.work a j is of) has

  -- the composite's piece may take its place
  may_grow : g.end ≡ None → is_composite c.work ≡ true
      → IsControlled (recorded g d.stores) (control c.work)
      → IsGrowing p g c before after (piece_for p (recorded g d.stores) g.next c)
  may_grow goes composite controlled =
      let chosen : Option Value = control_value (recorded g d.stores) c.work in
      let supplied = subst (λ (ns : List Node). AreSupplied p.file (limits_of p) g.next ns g.given)
      split (sound.supplied goes) in
      let there_ready = ready p.file (limits_of p) g.next g.given before c after chosen supplied
      composite (control_same controlled) in
      record {
        goes_on = goes;
        split = split;
        composite = composite;
        undriven = composite_undriven;
        replaced = refines p.file (limits_of p) (is_over g) g.next g.given before c after chosen
            sound.below order there_ready;
        new = piece-new p.file (limits_of p) c chosen g.next (named (arguments c.work))
            named_below (among_named (arguments c.work));
        supplied = supplies p.file (limits_of p) (is_over g) g.next g.given before c after
            chosen sound.below order supplied there_ready;
        slots = refined-ports p.file (limits_of p) (is_over g) g.next no_numbers before c after
            chosen sound.below order (subst (HavePorts no_numbers) split sound.slots);
      }
    where
      among : Contains (nodes g) c
      among = Contains-append_right g.past g.chain c there

      composite_undriven : g.driver c.id ≡ None
      composite_undriven = by_record (g.driver c.id) refl
        where
          by_record : (o : Option Ran) → g.driver c.id ≡ o → g.driver c.id ≡ None
          by_record None is = is
          by_record (Some ran) is =
              let s = h.run_done c.id ran c is there refl in
              let one = same_node p g s.node c sound s.stands among s.number in
              let leaf = (seen_leaf p (sight p g) s.node s.does s.meaning).0 in
              let w : is_composite s.node.work ≡ true
              = ap (λ (y : Node). is_composite y.work) one ∙ composite in
              absurd (cc (leaf, w))

      named_below : LieBelow (named (arguments c.work)) g.next
      named_below j is =
          elim (order_names (is_over g) g.next g.chain c j sound.listed there
          (named_of (arguments c.work) j is)) [
            | inl over ↦ sound.below j over
            | inr chain ↦
                let x = stands_node g.chain j chain in
                subst (λ i. i < g.next) x.2
                (list_below (is_over g) g.next g.chain x.0 sound.listed x.1)
          ]

-- the graph with the piece
pub grown_is : (p : Plan) (g : Graph) (stores : Stores) (k : ℕ) (before : List Node) (c : Node)
    (after : List Node) → IsGraphSound p g → g.chain ≡ before ++ c ∷ after → c.id ≡ k
    → grown p stores k g ≡ growing g c before after (piece_for p (recorded g stores) g.next c)
unfolding grown
grown_is p g stores k before c after sound split number =
    let piece : Piece = piece_for p (recorded g stores) g.next c in
    let there : Contains g.chain c = subst (λ (ns : List Node). Contains ns c) (sym split)
    (Contains-append_right before (c ∷ after) c (here c after)) in
    let order = subst (IsOrdered (is_over g) g.next) split sound.listed in
    ap (grown_by p (recorded g stores) g k)
    (ap (node_at g.chain) (sym number)
    ∙ node_found g.chain c (list_apart (is_over g) g.next g.chain sound.listed) there)
    ∙ ap (λ (ns : List Node). record g { chain = ns; next = piece.next; end = end_at ns })
    (ap (λ i. replaced i piece g.chain) (sym number)
    ∙ ap (replaced c.id piece) split
    ∙ found (is_over g) g.next before c after piece order)

-- how a composite is refined: where it stands, and what the graph is then
pub record IsRefined (p : Plan) (s : State) (k : ℕ) : Type 0 where
  pub before : List Node
  pub node : Node
  pub after : List Node
  pub piece : Piece
  pub number : node.id ≡ k
  pub grows : IsGrowing p s.graph node before after piece
  pub graph : grown p s.desk.stores k s.graph ≡ growing s.graph node before after piece

pub refines_so : (p : Plan) (s : State) (k : ℕ) → IsSound p s → s.graph.end ≡ None
    → CanRefine p s k → IsRefined p s k
refines_so p s k sound goes can =
    let g = s.graph in
    let at = split_at g.chain can.node can.stands in record {
      before = at.0;
      node = can.node;
      after = at.1;
      piece = piece_for p (recorded g s.desk.stores) g.next can.node;
      number = can.number;
      grows = may_grow p g s.desk s.lost at.0 can.node at.1 sound.graph sound.desk at.2 goes
          can.composite can.control;
      graph = grown_is p g s.desk.stores k at.0 can.node at.1 sound.graph at.2 can.number;
    }

-- the law
pub refine_keeps : RefineLaw
unfolding acted
refine_keeps p s seat k sound goes can =
    let r = refines_so p s k sound goes can in
    subst (λ (x : Graph). IsSound p (record s { graph = x })) (sym r.graph)
    (state_grown p s r.node r.before r.after r.piece sound r.grows)
