-- A list whose second part begins one place later, or goes on otherwise from a place on.
use Rattle.std.proofs.Common.{◌≡◌, ℕ, ◌+◌, ◌≤◌, List, ◌++◌, length, drop, take, ap, sym, ◌∙◌, arith}
use Rattle.std.proofs.lemmas.List.{drop-append-le, drop-drop, drop-take, length-take-le, take-append-drop, take-take}

pub passed_past : {A : Type 0} (xs : List A) (k : ℕ)
    → take (k + 1) xs ≡ take k xs ++ take 1 (drop k xs)
passed_past xs k = sym (
    ap (λ z. take k xs ++ z) (sym (drop-take k 1 xs))
    ∙ ap (λ z. z ++ drop k (take (k + 1) xs)) (sym (take-take k (k + 1) xs (omega arith)))
    ∙ take-append-drop k (take (k + 1) xs))

pub passed_chain : {A : Type 0} (xs : List A) (k : ℕ) → drop (k + 1) xs ≡ drop 1 (drop k xs)
passed_chain xs k = sym (drop-drop 1 k xs)

pub spliced_chain : {A : Type 0} (xs tail : List A) (k at : ℕ) → k + at ≤ length xs
    → drop k (take (k + at) xs ++ tail) ≡ take at (drop k xs) ++ tail
spliced_chain xs tail k at within =
    let len : length (take (k + at) xs) ≡ k + at = length-take-le (k + at) xs within in
    drop-append-le k (take (k + at) xs) tail (omega arith)
    ∙ ap (λ z. z ++ tail) (drop-take k at xs)
