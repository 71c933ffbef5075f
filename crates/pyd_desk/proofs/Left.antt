-- A list without the element at a place of its first part.
use Rattle.std.proofs.Common.{◌≡◌, ℕ, ◌+◌, ◌<◌, ◌≤◌, List, ◌++◌, append_assoc, length, length-append, length-drop, drop, take, ap, sym, subst, ◌∙◌, arith}
use Rattle.std.specs.List.{All}
use Rattle.std.proofs.lemmas.List.{drop-append-le, length-take-le, take-append-drop, take-take}
use Rattle.std.proofs.lemmas.List.Elements.{All-append, All-drop, All-take}
use Rattle.std.proofs.Math.Seq.{drop-append_seam, take-append_seam}

-- it is what is left of the first part, and then the second
left_parts : {A : Type 0} (xs : List A) (at k : ℕ) → at < k → k ≤ length xs
    → take at xs ++ drop (at + 1) xs
    ≡ (take at (take k xs) ++ drop (at + 1) (take k xs)) ++ drop k xs
left_parts xs at k place within =
    let len : length (take k xs) ≡ k = length-take-le k xs within in
    ap (λ z. z ++ drop (at + 1) xs) (sym (take-take at k xs (omega (arith, place))))
    ∙ ap (λ z. take at (take k xs) ++ z)
    (ap (drop (at + 1)) (sym (take-append-drop k xs))
    ∙ drop-append-le (at + 1) (take k xs) (drop k xs) (omega (arith, place, len)))
    ∙ sym (append_assoc (take at (take k xs)) (drop (at + 1) (take k xs)) (drop k xs))

left_length : {A : Type 0} (xs : List A) (at k : ℕ) → at < k → k ≤ length xs
    → length (take at (take k xs) ++ drop (at + 1) (take k xs)) + 1 ≡ k
left_length xs at k place within =
    let len : length (take k xs) ≡ k = length-take-le k xs within in
    let all = length-append (take at (take k xs)) (drop (at + 1) (take k xs)) in
    let first : length (take at (take k xs)) ≡ at
    = length-take-le at (take k xs) (omega (arith, place, len)) in
    let rest = length-drop (at + 1) (take k xs) in
    omega (arith, len, all, first, rest, place)

pub left_past : {A : Type 0} (xs ys : List A) (at k j : ℕ) → at < k → k ≤ length xs → j + 1 ≡ k
    → ys ≡ take at xs ++ drop (at + 1) xs
    → take j ys ≡ take at (take k xs) ++ drop (at + 1) (take k xs)
left_past xs ys at k j place within one is =
    let left = take at (take k xs) ++ drop (at + 1) (take k xs) in
    let len = left_length xs at k place within in
    let same : j ≡ length left = omega (arith, len, one) in
    ap (take j) (is ∙ left_parts xs at k place within)
    ∙ ap (λ i. take i (left ++ drop k xs)) same ∙ take-append_seam left (drop k xs)

pub left_chain : {A : Type 0} (xs ys : List A) (at k j : ℕ) → at < k → k ≤ length xs → j + 1 ≡ k
    → ys ≡ take at xs ++ drop (at + 1) xs → drop j ys ≡ drop k xs
left_chain xs ys at k j place within one is =
    let left = take at (take k xs) ++ drop (at + 1) (take k xs) in
    let len = left_length xs at k place within in
    let same : j ≡ length left = omega (arith, len, one) in
    ap (drop j) (is ∙ left_parts xs at k place within)
    ∙ ap (λ i. drop i (left ++ drop k xs)) same ∙ drop-append_seam left (drop k xs)

-- what holds of each element holds of those that are left
pub left_all : {A : Type 0} (P : A → Type 0) (xs ys : List A) (at : ℕ)
    → ys ≡ take at xs ++ drop (at + 1) xs → All P xs → All P ys
left_all P xs ys at is all =
    subst (All P) (sym is)
    (All-append P (take at xs) (drop (at + 1) xs) (All-take P at xs all) (All-drop P (at + 1) xs all))
