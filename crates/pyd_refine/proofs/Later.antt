-- Later nodes have what they need with other arguments in the place of a node's ports.
use Rattle.std.proofs.Common.{◌≡◌, ℕ, zero, suc, ◌≤◌, ◌<◌, List, [], ◌∷◌, ◌++◌, map, refl, sym, ap, subst, ◌∙◌, arith, Some, nat_eq, Bool, true, false, if◌then◌else◌}
use Rattle.std.specs.Prelude.{is_some, ◌&&◌, IsTrue}
use Rattle.std.proofs.lemmas.List.{length-map}
use Rattle.pyd_value.specs.declared.value.Value.{Value}
use Rattle.pyd_tree.specs.declared.file.File.{File}
use Rattle.pyd_meaning.specs.declared.limits.Limits.{Limits}
use Rattle.pyd_ir.specs.declared.arg.Arg.{Arg}
use Rattle.pyd_ir.specs.declared.arg.Ref.{Ref}
use Rattle.pyd_ir.specs.declared.arg.Arg.TheVariants.{Known, From, Slot, Unbound}
use Rattle.pyd_ir.specs.declared.node.Node.{Node}
use Rattle.pyd_ir.specs.declared.work.Frame.{Frame}
use Rattle.pyd_ir.specs.declared.work.Side.{Side}
use Rattle.pyd_ir.specs.declared.work.Work.{Work}
use Rattle.pyd_ir.specs.declared.work.Work.TheVariants.{Op, Read, Call, Stop, Print, Run, Cond, While, For, Pick, Enter}
use Rattle.pyd_ir.specs.Arguments.{arguments, rest_arguments, side_arguments}
use Rattle.pyd_ir.specs.Inputs.{Given, value_of, have_values}
use Rattle.pyd_ir.specs.Ports.{Ports}
use Rattle.pyd_translate.specs.Naming.{Numbers, IsAmong, AreAmong}
use Rattle.pyd_translate.specs.Walk.{give, work_ports}
use Rattle.pyd_translate.specs.Matching.{IsGiven, AreGiven}
use Rattle.pyd_translate.specs.Supplied.{HasNeeds, WhereGiven, AreSupplied}
use Rattle.pyd_translate.proofs.Supplying.{where-then}
use Rattle.pyd_refine.specs.Ordering.{and_one, IsOrdered}
use Rattle.pyd_refine.specs.Redirecting.{image, redirect, redirect_all, redirect_rest, redirect_side, redirect_work, redirect_node}
use Rattle.pyd_refine.proofs.Ordering.{second-true, not-true, test-equal, all-more, among-left, among-right}
use Rattle.pyd_refine.proofs.Redirecting.{rest-redirects, side-redirects, work-redirects, one-more-back}
use Rattle.pyd_refine.proofs.Substituting.{StandsFor, give-apart, work-same, give-stands}

-- an argument that is given, in the place of a port
image-given : (next : ℕ) (given : Given) (ports : List Arg) (port : ℕ) → AreGiven next given ports
    → IsGiven next given (image ports port)
image-given next given [] port are = tt
image-given next given (a ∷ ports) zero are = are.0
image-given next given (a ∷ ports) (suc port) are = image-given next given ports port are.1

module _ (more : Numbers) (n next : ℕ) (new : Ports) (given : Given) (fresh : more n ≡ false) where
  -- an argument that names another node is given as it was
  give-given : (a : Arg) → IsAmong more a → IsGiven next given a → IsGiven next (give n new given) a
  give-given (Known v) p is = tt
  give-given (From r) p is = (is.0, is.1, give-apart more n new given (From r) fresh p ∙ is.2)
  give-given (Slot r) p is = is
  give-given Unbound p is = tt

  -- so are several
  give-all_given : (args : List Arg) → AreAmong more args → AreGiven next given args → AreGiven next (give n new given) args
  give-all_given [] p are = tt
  give-all_given (a ∷ args) p are = (give-given a p.0 are.0, give-all_given args p.1 are.1)

module _ (id : ℕ) (ports : List Arg) where
  module _ (known : Numbers) (given instead : Given) (same : StandsFor id ports known given instead) where
    module _ (low next : ℕ) (le : low ≤ next) (images : AreGiven next instead ports) where
      -- a port that has a value, or what stands in its place
      from-given : (t : Bool) (r : Ref) (v : Value) → r.node < low
          → value_of instead (if t then image ports r.port else From r) ≡ Some v
          → IsGiven next instead (if t then image ports r.port else From r)
      from-given true r v lt e = image-given next instead ports r.port images
      from-given false r v lt e = (omega (arith, lt, le), v, e)

      -- a slot's port, or what stands in its place
      slot-given : (t : Bool) (r : Ref) → r.node < low
          → IsGiven next instead (if t then image ports r.port else Slot r)
      slot-given true r lt = image-given next instead ports r.port images
      slot-given false r lt = omega (arith, lt, le)

      -- an argument, with what stands in the place of node id's ports
      redirect-given : (a : Arg) → IsAmong known a → IsGiven low given a → IsGiven next instead (redirect id ports a)
      redirect-given (Known v) p is = tt
      redirect-given (From r) p is = from-given (nat_eq r.node id) r is.1 is.0 (same (From r) p ∙ is.2)
      redirect-given (Slot r) p is = slot-given (nat_eq r.node id) r is
      redirect-given Unbound p is = tt

      -- several
      redirect-all_given : (args : List Arg) → AreAmong known args → AreGiven low given args
          → AreGiven next instead (redirect_all id ports args)
      redirect-all_given [] p are = tt
      redirect-all_given (a ∷ args) p are = (redirect-given a p.0 are.0, redirect-all_given args p.1 are.1)

    -- arguments have values where they had
    have-same : (args : List Arg) → AreAmong known args
        → have_values instead (redirect_all id ports args) ≡ have_values given args
    have-same [] p = refl
    have-same (a ∷ args) p = λ i. is_some (same a p.0 i) && have-same args p.1 i

    -- so have the iterables of a rest
    rest-had : (rest : List Frame) → AreAmong known (rest_arguments rest) → IsTrue (have_values given (rest_arguments rest))
        → IsTrue (have_values instead (rest_arguments (redirect_rest id ports rest)))
    rest-had rest p is =
        ap (have_values instead) (rest-redirects id ports rest) ∙ have-same (rest_arguments rest) p ∙ is

    -- and the argument of a side
    side-had : (s : Side) → AreAmong known (side_arguments s) → IsTrue (have_values given (side_arguments s))
        → IsTrue (have_values instead (side_arguments (redirect_side id ports s)))
    side-had s p is = ap (have_values instead) (side-redirects id ports s) ∙ have-same (side_arguments s) p ∙ is

    -- a node has what it needs where it had
    needs-same : (file : File) (routine : ℕ) (w : Work) → AreAmong known (arguments w) → HasNeeds file routine given w
        → HasNeeds file routine instead (redirect_work id ports w)
    needs-same file routine (Op op args) p needs = have-same args p ∙ needs
    needs-same file routine (Read arg kind) p needs = tt
    needs-same file routine (Call func args) p needs = have-same args p ∙ needs
    needs-same file routine (Stop fault) p needs = tt
    needs-same file routine (Print args) p needs = have-same args p ∙ needs
    needs-same file routine (Run func args) p needs = have-same args p ∙ needs
    needs-same file routine (Cond test k arm rest env) p needs = (
      ap is_some (same test p.0) ∙ needs.0,
      rest-had rest (among-left known (rest_arguments rest) env p.1) needs.1,
      length-map env (redirect id ports) ∙ needs.2,
    )
    needs-same file routine (While test k turns rest env) p needs = (
      ap is_some (same test p.0) ∙ needs.0,
      rest-had rest (among-left known (rest_arguments rest) env p.1) needs.1,
      length-map env (redirect id ports) ∙ needs.2,
    )
    needs-same file routine (For over k turns rest env) p needs = (
      ap is_some (same over p.0) ∙ needs.0,
      rest-had rest (among-left known (rest_arguments rest) env p.1) needs.1,
      length-map env (redirect id ports) ∙ needs.2,
    )
    needs-same file routine (Pick test first second env) p needs =
        let others = among-right known (side_arguments first) (side_arguments second ++ env) p.1 in (
          ap is_some (same test p.0) ∙ needs.0,
          side-had first (among-left known (side_arguments first) (side_arguments second ++ env) p.1) needs.1,
          side-had second (among-left known (side_arguments second) env others) needs.2,
          length-map env (redirect id ports) ∙ needs.3,
        )
    needs-same file routine (Enter func args) p needs = have-same args p ∙ needs

  -- later nodes are supplied
  pub later-supplied : (file : File) (limits : Limits) (known more : Numbers) (low next : ℕ) (ns : List Node)
      (given instead : Given)
      → low ≤ next → known id ≡ true → ((m : ℕ) → m < low → known m ≡ false → more m ≡ false)
      → AreAmong more ports → IsOrdered known low ns → StandsFor id ports known given instead → AreGiven next instead ports
      → AreSupplied file limits low ns given
      → AreSupplied file limits next (map (redirect_node id ports) ns) instead
  unfolding AreSupplied
  later-supplied file limits known more low next [] given instead le own back among o same images s = tt
  later-supplied file limits known more low next (n ∷ ns) given instead le own back among o same images s =
      let fresh = back n.id o.0 o.1 in (
        subst (AreGiven next instead) (sym (work-redirects id ports n.work))
            (redirect-all_given known given instead same low next le images (arguments n.work) o.2 s.0),
        needs-same known given instead same file n.routine n.work o.2 s.1,
        subst (λ e. WhereGiven e.result (λ new. AreSupplied file limits next (map (redirect_node id ports) ns) (give n.id new instead)))
            (sym (work-same id ports known given instead same file limits n.work n o.2 o.2))
            (where-then (work_ports file limits n.work n given).result _ _ s.2
            (λ new is rest. later-supplied file limits (and_one known n.id) (and_one more n.id) low next ns
            (give n.id new given) (give n.id new instead) le
            (second-true (nat_eq id n.id) (known id) own)
            (one-more-back id ports known more low n.id back)
            (all-more more (and_one more n.id) (λ m p. second-true (nat_eq m n.id) (more m) p) ports among)
            o.3
            (give-stands id ports known more n.id new given instead (other n.id id o.1 own) fresh among same)
            (give-all_given more n.id next new instead fresh ports among images) rest)),
      )
    where
      other : (m i : ℕ) → known m ≡ false → known i ≡ true → nat_eq m i ≡ false
      other m i p q = not-true (nat_eq m i) (λ e. cc (sym q ∙ ap known (sym (test-equal m i e)) ∙ p))
