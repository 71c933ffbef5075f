-- Items of lists by their places.
use Rattle.std.proofs.Common.{◌≡◌, ℕ, zero, suc, ◌-◌, List, [], ◌∷◌, map, length, Option, None, refl, ap, ◌∙◌, arith}
use Rattle.std.specs.Prelude.{slice_get, option_map}

-- an item of what is made of each
pub map_at : {A B : Type 0} (f : A → B) (xs : List A) (k : ℕ)
    → slice_get (map f xs) k ≡ option_map f (slice_get xs k)
map_at f [] k = refl
map_at f (x ∷ xs) zero = refl
map_at f (x ∷ xs) (suc k) = map_at f xs k

-- an item that follows a first one
pub behind_first : {A : Type 0} (x : A) (xs : List A) (k : ℕ) (o : Option A)
    → ¬ (k ≡ 0) → o ≡ slice_get xs (k - 1) → o ≡ slice_get (x ∷ xs) k
behind_first x xs zero o other is = absurd (other refl)
behind_first x xs (suc k) o other is =
    let before : suc k - 1 ≡ k = omega arith in
    is ∙ ap (slice_get xs) before

-- of two lists of one length, neither has an item that the other hasn't
pub none_in_either : {A B : Type 0} (xs : List A) (ys : List B) (k : ℕ) → length xs ≡ length ys
    → slice_get xs k ≡ None → slice_get ys k ≡ None
none_in_either [] [] k same is = refl
none_in_either [] (y ∷ ys) k same is = absurd (cc same)
none_in_either (x ∷ xs) [] k same is = absurd (cc same)
none_in_either (x ∷ xs) (y ∷ ys) zero same is = absurd (cc is)
none_in_either (x ∷ xs) (y ∷ ys) (suc k) same is =
    let less : length xs ≡ length ys = omega (arith, same) in
    none_in_either xs ys k less is
