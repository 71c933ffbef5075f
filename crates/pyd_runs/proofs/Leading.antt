-- Where a walk leads, what is seen is given.
use Rattle.std.proofs.Common.{◌≡◌, ℕ, true, false, List, [], ◌∷◌, ◌++◌, map, Option, None, Some, inl, inr, refl, ap, sym, ◌∙◌, subst}
use Rattle.std.specs.Prelude.{IsTrue, Result, Ok, Err}
use Rattle.pyd_value.specs.declared.value.Value.{Value}
use Rattle.pyd_value.specs.declared.fault.Fault.{Fault}
use Rattle.pyd_tree.specs.declared.file.File.{File}
use Rattle.pyd_meaning.specs.declared.limits.Limits.{Limits}
use Rattle.pyd_meaning.specs.Evaluation.{Evaluation, settled}
use Rattle.pyd_ir.specs.declared.arg.Arg.{Arg}
use Rattle.pyd_ir.specs.declared.node.Node.{Node}
use Rattle.pyd_ir.specs.declared.work.Work.{Work}
use Rattle.pyd_ir.specs.declared.work.Work.TheVariants.{Op, Read, Call, Stop, Print, Run, Cond, While, For, Pick, Enter}
use Rattle.pyd_ir.specs.Arguments.{is_composite}
use Rattle.pyd_ir.specs.Inputs.{Given, has_inputs, work_meaning, leaf_meaning}
use Rattle.pyd_ir.specs.Ports.{Ports, ports_of}
use Rattle.pyd_translate.specs.Walk.{give, work_ports, walk}
use Rattle.pyd_translate.proofs.Sequencing.{then-ok, then-err}
use Rattle.pyd_refine.specs.Redirecting.{redirect_node}
use Rattle.pyd_runs.specs.Plans.{Plan, limits_of}
use Rattle.pyd_runs.specs.Sound.{IsFresh, ports_given, ports_seen, leaf_seen, seen}
use Rattle.pyd_runs.proofs.Putting.{at_cases, put_same, put_else}
use Rattle.pyd_runs.proofs.Readiness.{IsWithin}
use Rattle.pyd_runs.proofs.Within.{under_some, leaf_within}
use Rattle.pyd_runs.proofs.Leaves.{leaf_ok}
use Rattle.pyd_runs.proofs.Redirected.{node_left}

-- what means something is a leaf
pub meaning_leaf : (file : File) (limits : Limits) (given : Given) (line depth : ℕ) (w : Work)
    (e : Evaluation Value) → work_meaning file limits given line depth w ≡ Some e
    → is_composite w ≡ false
meaning_leaf file limits given line depth (Op op args) e is = refl
meaning_leaf file limits given line depth (Read arg kind) e is = refl
meaning_leaf file limits given line depth (Call func args) e is = refl
meaning_leaf file limits given line depth (Stop fault) e is = refl
meaning_leaf file limits given line depth (Print args) e is = refl
meaning_leaf file limits given line depth (Run func args) e is = refl
meaning_leaf file limits given line depth (Cond test stmt arm rest env) e is = absurd (cc (is))
meaning_leaf file limits given line depth (While test stmt turns rest env) e is = absurd (cc (is))
meaning_leaf file limits given line depth (For over stmt turns rest env) e is = absurd (cc (is))
meaning_leaf file limits given line depth (Pick test first second env) e is = absurd (cc (is))
meaning_leaf file limits given line depth (Enter func args) e is = absurd (cc (is))

-- a node of which something is seen is a leaf whose inputs are there
pub seen_leaf : (p : Plan) (given : Given) (n : Node) (e : Evaluation Value)
    → leaf_seen p given n ≡ Some e
    → (is_composite n.work ≡ false) × IsTrue (has_inputs given n.work)
    × (leaf_meaning p.file (limits_of p) given n ≡ Some e)
seen_leaf p given n e s =
    let parts = under_some (has_inputs given n.work) (leaf_meaning p.file (limits_of p) given n)
    e s in
    (meaning_leaf p.file (limits_of p) given n.line n.depth n.work e parts.1, parts.0, parts.1)

-- of a composite nothing is seen
pub unseen : (p : Plan) (given : Given) (n : Node) → is_composite n.work ≡ true
    → leaf_seen p given n ≡ None
unseen p given n composite = by_case (leaf_seen p given n) refl
  where
    by_case : (o : Option (Evaluation Value)) → leaf_seen p given n ≡ o
        → leaf_seen p given n ≡ None
    by_case None is = is
    by_case (Some e) is =
        let l = (seen_leaf p given n e is).0 in absurd (cc (l, composite))

-- what is seen of two lists
pub seen_append : (p : Plan) (given : Given) (xs ys : List Node)
    → seen p given (xs ++ ys) ≡ seen p (seen p given xs) ys
unfolding seen
seen_append p given [] ys = refl
seen_append p given (x ∷ xs) ys =
    seen_append p (give x.id (ports_seen x (leaf_seen p given x)) given) xs ys

-- two that give more at one node
pub give_within : (less more : Given) (k : ℕ) (few many : Ports) → IsWithin less more
    → ((port : ℕ) (v : Value) → few port ≡ Some v → many port ≡ Some v)
    → IsWithin (give k few less) (give k many more)
give_within less more k few many within h j port v has = elim (at_cases j k) [
  | inl same ↦
      ap (λ (ports : Ports). ports port) (put_same more k many j same)
      ∙ h port v (sym (ap (λ (ports : Ports). ports port) (put_same less k few j same)) ∙ has)
  | inr other ↦
      ap (λ (ports : Ports). ports port) (put_else more k many j other)
      ∙ within j port v
      (sym (ap (λ (ports : Ports). ports port) (put_else less k few j other)) ∙ has)
]

-- a walk that leads on led on from its first node
pub first_gave : (file : File) (limits : Limits) (n : Node) (ns : List Node) (given reached : Given)
    → (walk file limits (n ∷ ns) given).result ≡ Ok reached
    → (ports : Ports) × ((work_ports file limits n.work n given).result ≡ Ok ports)
    × ((walk file limits ns (give n.id ports given)).result ≡ Ok reached)
unfolding walk
first_gave file limits n ns given reached leads =
    by_result (work_ports file limits n.work n given).result refl
  where
    next : Ports → Evaluation Given
    next ports = walk file limits ns (give n.id ports given)

    by_result : (r : Result Ports Fault) → (work_ports file limits n.work n given).result ≡ r
        → (ports : Ports) × ((work_ports file limits n.work n given).result ≡ Ok ports)
        × ((walk file limits ns (give n.id ports given)).result ≡ Ok reached)
    by_result (Ok ports) gave = (
      ports,
      gave,
      sym (ap (λ (x : Evaluation Given). x.result)
          (then-ok (work_ports file limits n.work n given) ports next gave)) ∙ leads,
    )
    by_result (Err f) gave =
        let z = sym (ap (λ (x : Evaluation Given). x.result)
        (then-err (work_ports file limits n.work n given) f next gave)) ∙ leads in
        absurd (cc (z))

-- what is seen of a leaf is what a walk has given there
leaf_gave : (p : Plan) (less more : Given) (n : Node) (ports : Ports) → IsWithin less more
    → (work_ports p.file (limits_of p) n.work n more).result ≡ Ok ports
    → (port : ℕ) (v : Value) → ports_seen n (leaf_seen p less n) port ≡ Some v
    → ports port ≡ Some v
leaf_gave p less more n ports within gave port v has = by_seen (leaf_seen p less n) refl has
  where
    by_result : (e : Evaluation Value) (r : Result Value Fault)
        → leaf_meaning p.file (limits_of p) more n ≡ Some e → e.result ≡ r
        → ports_given n r port ≡ Some v → ports port ≡ Some v
    by_result e (Ok u) meant is x =
        let d = (leaf_ok p.file (limits_of p) more n e u meant is).1 in
        let same : ports_of n.work u ≡ ports = (let z = sym d ∙ gave in cc (z)) in
        ap (λ (f : Ports). f port) (sym same) ∙ x
    by_result e (Err f) meant is x = absurd (cc (x))

    by_seen : (o : Option (Evaluation Value)) → leaf_seen p less n ≡ o
        → ports_seen n o port ≡ Some v → ports port ≡ Some v
    by_seen None is x = absurd (cc (x))
    by_seen (Some e) is x =
        let meant = (seen_leaf p more n e (leaf_within p less more within n e is)).2 in
        by_result e e.result meant refl x

-- a walk of nothing leads nowhere else
walk_nothing : (p : Plan) (given reached : Given)
    → (walk p.file (limits_of p) [] given).result ≡ Ok reached → given ≡ reached
unfolding walk settled
walk_nothing p given reached leads = cc (leads)

-- where a walk leads, all that is seen is given
pub walk_within : (p : Plan) (ns : List Node) (less more reached : Given) → IsWithin less more
    → (walk p.file (limits_of p) ns more).result ≡ Ok reached
    → IsWithin (seen p less ns) reached
unfolding seen
walk_within p [] less more reached within leads =
    let same = walk_nothing p more reached leads in
    subst (IsWithin less) same within
walk_within p (n ∷ ns) less more reached within leads =
    let first = first_gave p.file (limits_of p) n ns more reached leads in
    walk_within p ns (give n.id (ports_seen n (leaf_seen p less n)) less)
    (give n.id first.0 more) reached
    (give_within less more n.id (ports_seen n (leaf_seen p less n)) first.0 within
    (leaf_gave p less more n first.0 within first.1)) first.2

-- what is seen behind a composite is seen where a piece is in its place
pub seen_within : (p : Plan) (id : ℕ) (images : List Arg) (ns : List Node) (less more : Given)
    → IsWithin less more → ((port : ℕ) → less id port ≡ None) → IsFresh id ns
    → IsWithin (seen p less ns) (seen p more (map (redirect_node id images) ns))
unfolding seen
seen_within p id images [] less more within blank fresh = within
seen_within p id images (n ∷ ns) less more within blank fresh =
    seen_within p id images ns
    (give n.id (ports_seen n (leaf_seen p less n)) less)
    (give n.id (ports_seen (redirect_node id images n) (leaf_seen p more (redirect_node id images n))) more)
    (give_within less more n.id (ports_seen n (leaf_seen p less n))
    (ports_seen (redirect_node id images n) (leaf_seen p more (redirect_node id images n)))
    within (λ port v has. by_seen port v (leaf_seen p less n) refl has))
    (λ port. ap (λ (ports : Ports). ports port)
    (put_else less n.id (ports_seen n (leaf_seen p less n)) id (λ z. fresh.0 (sym z)))
    ∙ blank port) fresh.1
  where
    by_seen : (port : ℕ) (v : Value) (o : Option (Evaluation Value)) → leaf_seen p less n ≡ o
        → ports_seen n o port ≡ Some v
        → ports_seen (redirect_node id images n) (leaf_seen p more (redirect_node id images n)) port
        ≡ Some v
    by_seen port v None is x = absurd (cc (x))
    by_seen port v (Some e) is x =
        let l = seen_leaf p less n e is in
        let same = node_left id images less blank n l.0 l.1 in
        let now = leaf_within p less more within n e is in
        ap (λ (y : Node). ports_seen y (leaf_seen p more y) port) same
        ∙ ap (λ o. ports_seen n o port) now ∙ x
