-- The least of lists end to end.
use Rattle.std.proofs.Common.{◌≡◌, ℕ, ◌+◌, ◌<◌, ◌≤◌, List, [], ◌∷◌, ◌++◌, map, length, take, drop, get_or, suc, add-one, drop-cons, Option, Some, None, refl, ap, sym, ◌∙◌, arith}
use Rattle.std.specs.List.{flat_map}
use Rattle.std.proofs.lemmas.List.{take_more, take_all}
use Rattle.std.proofs.lemmas.Grind.{flat_map-append}
use Rattle.pyd_names.specs.Binding.{joined}
use Rattle.pyd_scope.specs.Least.{lesser, least}

-- nothing is no lesser line
pub lesser-none : (a : Option ℕ) → lesser a None ≡ a
lesser-none None = refl
lesser-none (Some a) = refl

-- of three lines it doesn't matter which two are compared first
pub lesser_assoc : (a b c : Option ℕ) → lesser (lesser a b) c ≡ lesser a (lesser b c)
lesser_assoc None b c = refl
lesser_assoc (Some a) None c = refl
lesser_assoc (Some a) (Some b) None = refl
lesser_assoc (Some a) (Some b) (Some c) = ap (λ (n : ℕ). Some n) (omega arith)

-- the least of two lists
pub least-append : (xs ys : List ℕ) → least (xs ++ ys) ≡ lesser (least xs) (least ys)
least-append [] ys = refl
least-append (x ∷ xs) ys = ap (lesser (Some x)) (least-append xs ys) ∙ sym (lesser_assoc (Some x) (least xs) (least ys))

-- the least of a list and nothing
least_nothing : (xs : List ℕ) → least (xs ++ []) ≡ least xs
least_nothing xs = least-append xs [] ∙ lesser-none (least xs)

-- the least line of one more item, behind those before
pub least_more : {X : Type 0} (f : X → List ℕ) (xs : List X) (i : ℕ) (x : X) (line next : Option ℕ)
    → x ≡ get_or xs i x → i < length xs → line ≡ least (flat_map f (take i xs)) → next ≡ lesser line (least (f x))
    → next ≡ least (flat_map f (take (i + 1) xs))
least_more f xs i x line next here within before after =
    let item : take (i + 1) xs ≡ take i xs ++ x ∷ [] = take_more xs i x within ∙ ap (λ y. take i xs ++ y ∷ []) (sym here) in
    after ∙ ap (λ l. lesser l (least (f x))) before
    ∙ ap (lesser (least (flat_map f (take i xs)))) (sym (least_nothing (f x)))
    ∙ sym (least-append (flat_map f (take i xs)) (f x ++ []))
    ∙ ap least (sym (flat_map-append f (take i xs) (x ∷ [])))
    ∙ ap (λ ys. least (flat_map f ys)) (sym item)

-- the pieces end to end
joined-map : {X : Type 0} (f : X → List ℕ) (xs : List X) → joined (map f xs) ≡ flat_map f xs
joined-map f [] = refl
joined-map f (x ∷ xs) = ap (λ ls. f x ++ ls) (joined-map f xs)

-- the same where the pieces are made first
pub least_joined_more : {X : Type 0} (f : X → List ℕ) (xs : List X) (i : ℕ) (x : X) (line next : Option ℕ)
    → x ≡ get_or xs i x → i < length xs → line ≡ least (joined (map f (take i xs))) → next ≡ lesser line (least (f x))
    → next ≡ least (joined (map f (take (i + 1) xs)))
least_joined_more f xs i x line next here within before after =
    least_more f xs i x line next here within (before ∙ ap least (joined-map f (take i xs))) after
    ∙ ap least (sym (joined-map f (take (i + 1) xs)))

-- the least line once no item is left
pub least_whole : {X : Type 0} (f : X → List ℕ) (xs : List X) (i : ℕ) (line : Option ℕ)
    → length xs ≤ i → line ≡ least (flat_map f (take i xs)) → line ≡ least (flat_map f xs)
least_whole f xs i line past here = here ∙ ap (λ ys. least (flat_map f ys)) (take_all i xs past)

-- the same where the pieces are made first
pub least_joined_whole : {X : Type 0} (f : X → List ℕ) (xs : List X) (i : ℕ) (line : Option ℕ)
    → length xs ≤ i → line ≡ least (joined (map f (take i xs))) → line ≡ least (joined (map f xs))
least_joined_whole f xs i line past here = here ∙ ap (λ ys. least (joined (map f ys))) (take_all i xs past)

-- the items from a place on begin with the one there
pub drop_at : {X : Type 0} (xs : List X) (i : ℕ) (x : X) → x ≡ get_or xs i x → i < length xs → drop i xs ≡ x ∷ drop (i + 1) xs
drop_at xs i x is within = rw (add-one, drop-cons xs i x) (ap (λ y. y ∷ drop (suc i) xs) (sym is))

-- the lines of the front are looked at, those of the rest are left
pub least_onward : (whole line now : Option ℕ) (front rest : List ℕ)
    → whole ≡ lesser line (least (front ++ rest)) → now ≡ lesser line (least front) → whole ≡ lesser now (least rest)
least_onward whole line now front rest before after =
    before ∙ ap (lesser line) (least-append front rest) ∙ sym (lesser_assoc line (least front) (least rest))
    ∙ ap (λ l. lesser l (least rest)) (sym after)
