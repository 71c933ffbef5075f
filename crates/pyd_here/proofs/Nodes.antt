-- The place of the first node of a number.
use Rattle.std.proofs.Common.{◌≡◌, ◌≤◌, ℕ, zero, suc, List, [], ◌∷◌, length, drop, cond, Some, ap, sym, ◌∙◌}
use Rattle.std.specs.List.{slice_get}
use Rattle.std.proofs.lemmas.List.{drop_all}
use Rattle.std.proofs.lemmas.Option.{slice_get_past}
use Rattle.pyd_ir.specs.declared.node.Node.{Node}
use Rattle.pyd_runs.specs.Records.{node_at}
use Rattle.pyd_runs.proofs.Putting.{same_test}

-- where a number isn't that of any node, its place is behind all
pub place_past : (ns : List Node) (k i : ℕ) → length ns ≤ i
    → node_at (drop i ns) k ≡ node_at ns k → slice_get ns i ≡ node_at ns k
place_past ns k i past none =
    slice_get_past ns i past ∙ sym (ap (λ xs. node_at xs k) (drop_all i ns past)) ∙ none

-- the first node of a number at its place
pub place_found : (ns : List Node) (k i : ℕ) (n : Node) → slice_get ns i ≡ Some n → n.id ≡ k
    → node_at (drop i ns) k ≡ node_at ns k → slice_get ns i ≡ node_at ns k
place_found ns k i n there is first =
    there
    ∙ sym (ap (λ xs. node_at xs k) (at_place ns i n there)
    ∙ ap (λ b. cond b (Some n) (node_at (drop (suc i) ns) k)) (same_test n.id k is))
    ∙ first
  where
    at_place : (xs : List Node) (j : ℕ) (x : Node) → slice_get xs j ≡ Some x
        → drop j xs ≡ x ∷ drop (suc j) xs
    at_place [] j x e = absurd (cc (e))
    at_place (y ∷ xs) zero x e = let z : y ≡ x = cc (e) in ap (λ w. w ∷ xs) z
    at_place (y ∷ xs) (suc j) x e = at_place xs j x e
