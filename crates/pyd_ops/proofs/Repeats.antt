-- What is repeated once more.
use Rattle.std.proofs.Common.{◌≡◌, ℕ, zero, suc, ◌+◌, List, [], ◌∷◌, ◌++◌, length, take, get_or, ◌<◌, encode_utf8, refl, sym, ap, ◌∙◌, add-one, append_assoc, encode_utf8_all}
use Rattle.std.proofs.lemmas.List.{append-nil, take_more}
use Rattle.std.proofs.lemmas.Str.{encodes-append}
use Rattle.std.specs.List.{repeat}

once_more : {A : Type 0} (n : ℕ) (xs : List A) → repeat n xs ++ xs ≡ xs ++ repeat n xs
once_more zero xs = sym (append-nil xs)
once_more (suc n) xs = append_assoc xs (repeat n xs) xs ∙ ap (λ ys. xs ++ ys) (once_more n xs)

pub repeat_more : {A : Type 0} (n : ℕ) (xs : List A) → repeat n xs ++ xs ≡ repeat (n + 1) xs
repeat_more n xs = once_more n xs ∙ ap (λ k. repeat k xs) (sym (add-one n))

pub repeat_nothing : {A : Type 0} (n : ℕ) → repeat {A = A} n [] ≡ []
repeat_nothing zero = refl
repeat_nothing (suc n) = repeat_nothing n

pub encodes_repeat : (n : ℕ) (s : List ℕ) → encode_utf8_all (repeat n s) ≡ repeat n (encode_utf8_all s)
encodes_repeat zero s = refl
encodes_repeat (suc n) s = encodes-append s (repeat n s) ∙ ap (λ t. encode_utf8_all s ++ t) (encodes_repeat n s)

-- one character more
pub spelled_more : (cs : List ℕ) (i x : ℕ) → x ≡ get_or cs i x → i < length cs
    → encode_utf8_all (take i cs) ++ encode_utf8 x ≡ encode_utf8_all (take (i + 1) cs)
spelled_more cs i x e h =
    ap (λ y. encode_utf8_all (take i cs) ++ y) (sym (append-nil (encode_utf8 x)))
    ∙ sym (encodes-append (take i cs) (x ∷ []))
    ∙ ap encode_utf8_all (ap (λ y. take i cs ++ y ∷ []) e ∙ sym (take_more cs i x h))
