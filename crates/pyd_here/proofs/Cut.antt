-- A job that is taken out of a list at a place.
use Rattle.std.proofs.Common.{◌≡◌, ℕ, zero, suc, List, ◌∷◌, ◌++◌, [], take, drop, slice_index_or, Some, ap}
use Rattle.std.specs.List.{slice_get}

-- a list is what comes before an element, the element, and what comes behind
pub cut_at : {A : Type 0} (xs : List A) (i : ℕ) (x : A) → slice_get xs i ≡ Some x
    → xs ≡ take i xs ++ x ∷ drop (suc i) xs
cut_at [] i x is = absurd (cc (is))
cut_at (y ∷ xs) zero x is = (let same : y ≡ x = cc (is) in ap (λ z. z ∷ xs) same)
cut_at (y ∷ xs) (suc i) x is = ap (λ zs. y ∷ zs) (cut_at xs i x is)

-- the element at a place, whatever stands for none
pub read_at : {A : Type 0} (xs : List A) (i : ℕ) (x d : A) → slice_get xs i ≡ Some x
    → slice_index_or xs i d ≡ x
read_at [] i x d is = absurd (cc (is))
read_at (y ∷ xs) zero x d is = cc (is)
read_at (y ∷ xs) (suc i) x d is = read_at xs i x d is
