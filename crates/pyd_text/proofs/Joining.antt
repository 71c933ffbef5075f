-- Items that are joined, from one of them on.
use Rattle.std.proofs.Common.{◌≡◌, ℕ, ◌+◌, ◌<◌, List, [], ◌∷◌, ◌++◌, length, get_or, drop, map, refl, sym, ap, ◌∙◌, append_assoc, add-one}
use Rattle.std.specs.List.{flat_map, join_by}
use Rattle.std.proofs.lemmas.List.{drop_more}
use Rattle.pyd_text.specs.Writing.{divider}

-- the items from number i on, each behind its divider
abbrev pub joined_from : {X : Type 0} → (X → List ℕ) → List ℕ → ℕ → List X → List ℕ
joined_from f sep i [] = []
joined_from f sep i (x ∷ xs) = divider sep i ++ (f x ++ flat_map (λ y. sep ++ f y) xs)

-- from the first on they are all
pub joined_all : {X : Type 0} (f : X → List ℕ) (sep : List ℕ) (xs : List X) → joined_from f sep 0 xs ≡ join_by f sep xs
joined_all f sep [] = refl
joined_all f sep (x ∷ xs) = refl

-- and behind the first each has the divider before it
pub joined_rest : {X : Type 0} (f : X → List ℕ) (sep : List ℕ) (i : ℕ) (xs : List X)
    → joined_from f sep (i + 1) xs ≡ flat_map (λ y. sep ++ f y) xs
joined_rest f sep i [] = refl
joined_rest f sep i (x ∷ xs) =
    ap (λ n. divider sep n ++ (f x ++ flat_map (λ y. sep ++ f y) xs)) (add-one i)
    ∙ sym (append_assoc sep (f x) (flat_map (λ y. sep ++ f y) xs))

-- the item at a place stands before what is left behind it
pub joined_first : {X : Type 0} (f : X → List ℕ) (sep : List ℕ) (xs : List X) (i : ℕ) (x : X) → x ≡ get_or xs i x → i < length xs
    → joined_from f sep i (drop i xs) ≡ divider sep i ++ (f x ++ flat_map (λ y. sep ++ f y) (drop (i + 1) xs))
joined_first f sep xs i x e h =
    ap (joined_from f sep i) (drop_more xs i x h ∙ ap (λ y. y ∷ drop (i + 1) xs) (sym e))

flat_map-map : {X Y : Type 0} (f : Y → List ℕ) (g : X → Y) (xs : List X) → flat_map f (map g xs) ≡ flat_map (λ x. f (g x)) xs
flat_map-map f g [] = refl
flat_map-map f g (x ∷ xs) = ap (λ s. f (g x) ++ s) (flat_map-map f g xs)

-- texts that are joined are items joined by their texts
pub join_by-map : {X : Type 0} (f : X → List ℕ) (sep : List ℕ) (xs : List X) → join_by (λ r. r) sep (map f xs) ≡ join_by f sep xs
join_by-map f sep [] = refl
join_by-map f sep (x ∷ xs) = ap (λ s. f x ++ s) (flat_map-map (λ r. sep ++ r) f xs)

-- the item at a place stands before what is left behind it
pub item_first : {X : Type 0} (xs : List X) (i : ℕ) (x : X) → x ≡ get_or xs i x → i < length xs → drop i xs ≡ x ∷ drop (i + 1) xs
item_first xs i x e h = drop_more xs i x h ∙ ap (λ y. y ∷ drop (i + 1) xs) (sym e)
