-- What walks over the fields of a node and over the chain put into a set.
use Rattle.std.proofs.Common.{◌≡◌, ℕ, List, [], ◌∷◌, ◌++◌, Bool, true, false, cond, not, ◌&&◌, refl, sym, ap, subst, ◌∙◌}
use Rattle.std.specs.List.{flat_map}
use Rattle.std.specs.BTreeSet.{BTreeSet}
use Rattle.std.proofs.lemmas.Grind.{flat_map-append}
use Rattle.pyd_ir.specs.declared.arg.Arg.{Arg}
use Rattle.pyd_ir.specs.declared.work.Frame.{Frame}
use Rattle.pyd_ir.specs.declared.node.Node.{Node}
use Rattle.pyd_ir.specs.Arguments.{frame_arguments, rest_arguments}
use Rattle.pyd_lineage.specs.Lineage.{named_by, named_nodes}
use Rattle.pyd_lineage.specs.Marking.{has, Adds, IsSetOf, with_names}
use Rattle.pyd_lineage.proofs.Sets.{adds_then, adds_to}

-- what a frame names
abbrev pub frame_names : Frame → List ℕ
frame_names f = flat_map named_by (frame_arguments f)

-- what a node names that isn't known
abbrev pub unknown_names : (ℕ → Bool) → Node → List ℕ
unknown_names known x = cond (known x.id) [] (named_nodes x.work)

-- the frames of a rest name what its arguments name
pub frames_name : (rest : List Frame) → flat_map frame_names rest ≡ flat_map named_by (rest_arguments rest)
frames_name [] = refl
frames_name (f ∷ rest) =
    ap (λ ns. frame_names f ++ ns) (frames_name rest)
    ∙ sym (flat_map-append named_by (frame_arguments f) (rest_arguments rest))

-- numbers one by one
pub singles : (ns : List ℕ) → flat_map (λ n. n ∷ []) ns ≡ ns
singles [] = refl
singles (n ∷ ns) = ap (λ ms. n ∷ ms) (singles ns)

-- arguments, and then others
pub arguments_then : (old mid new : BTreeSet ℕ) (xs ys : List Arg)
    → Adds old mid (flat_map named_by xs) → Adds mid new (flat_map named_by ys)
    → Adds old new (flat_map named_by (xs ++ ys))
arguments_then old mid new xs ys first next =
    subst (Adds old new) (sym (flat_map-append named_by xs ys))
    (adds_then old mid new (flat_map named_by xs) (flat_map named_by ys) first next)

-- the turn of a past node that is marked and isn't known
pub turn_marked : (old new : BTreeSet ℕ) (known : ℕ → Bool) (x : Node) (behind : List ℕ)
    → (has old x.id && not (known x.id)) ≡ true → Adds old new (named_nodes x.work)
    → IsSetOf old behind → IsSetOf new (with_names known x behind)
turn_marked old new known x behind test adds was =
    subst (λ b. IsSetOf new (cond b (named_nodes x.work ++ behind) behind))
    (sym (ap (λ b. b && not (known x.id)) (sym (was x.id)) ∙ test))
    (adds_to old new (named_nodes x.work) behind adds was)

-- the turn of any other
pub turn_other : (old new : BTreeSet ℕ) (known : ℕ → Bool) (x : Node) (behind : List ℕ)
    → (has old x.id && not (known x.id)) ≡ false → old ≡ new
    → IsSetOf old behind → IsSetOf new (with_names known x behind)
turn_other old new known x behind test same was =
    subst (λ b. IsSetOf new (cond b (named_nodes x.work ++ behind) behind))
    (sym (ap (λ b. b && not (known x.id)) (sym (was x.id)) ∙ test))
    (λ n. ap (λ s. has s n) (sym same) ∙ was n)
