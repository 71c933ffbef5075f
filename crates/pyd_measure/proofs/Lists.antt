-- A list from its end, and parts of a list that was mapped.
use Rattle.std.proofs.Common.{◌≡◌, ℕ, ◌-◌, ◌≤◌, List, ◌++◌, reverse, length, take, drop, sym, ap, ◌∙◌, arith, length-drop, inl, inr}
use Rattle.std.proofs.lemmas.List.{reverse-append, length-reverse, take-append-drop}
use Rattle.std.proofs.lemmas.Bool.{cases_lt}
use Rattle.std.proofs.Math.Seq.{drop-append_seam}
use Rattle.std.proofs.Math.ListN.{drop_of_length-le}

-- the front of a list from its end
seam : {X : Type 0} → (xs ys : List X) (n : ℕ) → length ys ≡ n → drop n (reverse (xs ++ ys)) ≡ reverse xs
seam xs ys n e =
    ap (λ (z : List _). drop n z) (reverse-append xs ys)
    ∙ ap (λ (z : ℕ). drop z (reverse ys ++ reverse xs)) (sym (length-reverse ys ∙ e))
    ∙ drop-append_seam (reverse ys) (reverse xs)

within : {X : Type 0} → (xs : List X) (n : ℕ) → n ≤ length xs → reverse (take (length xs - n) xs) ≡ drop n (reverse xs)
within xs n l =
    let m : ℕ = length xs - n in
    sym (ap (λ (z : List _). drop n (reverse z)) (sym (take-append-drop m xs)) ∙ seam (take m xs) (drop m xs) n (length-drop m xs ∙ omega arith))

past : {X : Type 0} → (xs : List X) (n : ℕ) → length xs ≤ n → reverse (take (length xs - n) xs) ≡ drop n (reverse xs)
past xs n l =
    let z : length xs - n ≡ 0 = omega arith in
    let w : length (reverse xs) ≤ n = let e = length-reverse xs in omega arith in
    ap (λ (m : ℕ). reverse (take m xs)) z ∙ sym (drop_of_length-le (reverse xs) w)

pub taken_off : {X : Type 0} → (xs : List X) (n : ℕ) → reverse (take (length xs - n) xs) ≡ drop n (reverse xs)
taken_off xs n =
    elim (cases_lt n (length xs)) as (λ _. reverse (take (length xs - n) xs) ≡ drop n (reverse xs)) [ inl l ↦ within xs n (omega arith) | inr l ↦ past xs n l ]
