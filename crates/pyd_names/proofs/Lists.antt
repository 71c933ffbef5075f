-- Lists that are walked from the front, and folds over what was mapped.
use Rattle.std.proofs.Common.{◌≡◌, ℕ, ◌≤◌, List, [], ◌∷◌, ◌++◌, map, drop, length, append_assoc, refl, ap, arith}
use Rattle.std.proofs.lemmas.Grind.{common_steps}
use Rattle.std.specs.List.{flat_map}

-- what is joined after a map
pub flat_map-map : {X Y A : Type 0} → (g : X → Y) (f : Y → List A) (xs : List X) → flat_map f (map g xs) ≡ flat_map (λ x. f (g x)) xs
flat_map-map g f [] = refl
flat_map-map g f (x ∷ xs) = ap (λ z. f (g x) ++ z) (flat_map-map g f xs)

-- a walk that is over has put everything at the end
pub all_walked : {X A : Type 0} → (f : X → List A) (xs : List X) (i : ℕ) (out whole : List A)
    → length xs ≤ i → out ++ flat_map f (drop i xs) ≡ whole → out ≡ whole
all_walked f xs i out whole past is = grind (arith, common_steps)

-- one part behind another
pub put_after : {A : Type 0} → (out mid a b whole : List A) → mid ≡ out ++ a → whole ≡ a ++ b → mid ++ b ≡ out ++ whole
put_after out mid a b whole is parts = rw (is, parts) (append_assoc out a b)
