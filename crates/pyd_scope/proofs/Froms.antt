-- What holds of each item of a list by its number, the first having a number of its own.
use Rattle.std.proofs.Common.{◌≡◌, ℕ, zero, suc, ◌+◌, List, [], ◌∷◌, ◌++◌, length, Some, subst, arith}
use Rattle.std.specs.Prelude.{slice_get}

-- P of each item by its number, from a number on
abbrev pub AllFrom : {A : Type 0} → (ℕ → A → Type 0) → ℕ → List A → Type 0
AllFrom P n [] = Unit {0}
AllFrom P n (x ∷ xs) = P n x × AllFrom P (suc n) xs

-- of some items and then others
pub from-append : {A : Type 0} (P : ℕ → A → Type 0) (n : ℕ) (xs ys : List A) → AllFrom P n xs
    → AllFrom P (n + length xs) ys → AllFrom P n (xs ++ ys)
from-append P n [] ys p q =
    let same : n + 0 ≡ n = omega arith in
    subst (λ m. AllFrom P m ys) same q
from-append P n (x ∷ xs) ys p q =
    let same : n + suc (length xs) ≡ suc n + length xs = omega arith in
    (p.0, from-append P (suc n) xs ys p.1 (subst (λ m. AllFrom P m ys) same q))

-- of an item that was looked up
pub from_at : {A : Type 0} (P : ℕ → A → Type 0) (n : ℕ) (xs : List A) (k : ℕ) (x : A)
    → AllFrom P n xs → slice_get xs k ≡ Some x → P (n + k) x
from_at P n [] k x p is = absurd (cc is)
from_at P n (y ∷ xs) zero x p is =
    let same : y ≡ x = cc is in
    let number : n ≡ n + 0 = omega arith in
    subst (λ m. P m x) number (subst (P n) same p.0)
from_at P n (y ∷ xs) (suc k) x p is =
    let number : suc n + k ≡ n + suc k = omega arith in
    subst (λ m. P m x) number (from_at P (suc n) xs k x p.1 is)
