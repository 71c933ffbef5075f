-- A text is as long in UTF-8 as it has characters exactly where each of them is ASCII.
use Rattle.std.proofs.Common.{◌≡◌, ℕ, ◌≤◌, ◌<◌, ◌+◌, suc, nat_eq, nat_lt, Bool, true, false, ◌&&◌, List, [], ◌∷◌, ◌++◌, length, encode_utf8_all, refl, ap, ◌∙◌, arith}
use Rattle.std.specs.Char.{is_ascii, len_utf8}
use Rattle.std.specs.List.{list_all}
use Rattle.std.proofs.Math.Utf8.{encode}
use Rattle.std.proofs.Math.ListN.{length-append}
use Rattle.std.proofs.lemmas.Str.{encode_ascii, length-encode, length-le-encodes}

-- a text of ASCII is its own bytes, and another has more bytes than characters
abbrev Measured : Bool → List ℕ → Type 0
Measured true s = encode_utf8_all s ≡ s
Measured false s = length s < length (encode_utf8_all s)

below : (n m : ℕ) → nat_lt n m ≡ true → n < m
below n m h = grind arith

wide : (c : ℕ) → is_ascii c ≡ false → 2 ≤ len_utf8 c
wide c h = grind arith

measured_more : (c : ℕ) (s : List ℕ) (a b : Bool) → is_ascii c ≡ a → Measured b s → Measured (a && b) (c ∷ s)
measured_more c s true true e m = (λ k. encode_ascii c (below c 128 e) k ++ m k)
measured_more c s true false e m =
    let one : length (encode_utf8_all (c ∷ s)) ≡ suc (length (encode_utf8_all s)) =
    ap (λ bytes. length (bytes ++ encode_utf8_all s)) (encode_ascii c (below c 128 e)) in
    omega (arith, m, one)
measured_more c s false b e m =
    let all : length (encode_utf8_all (c ∷ s)) ≡ length (encode c) + length (encode_utf8_all s) =
    length-append (encode c) (encode_utf8_all s) in
    omega (arith, length-le-encodes s, length-encode c, wide c e, all)

measured : (s : List ℕ) → Measured (list_all is_ascii s) s
measured [] = refl
measured (c ∷ s) = measured_more c s (is_ascii c) (list_all is_ascii s) refl (measured s)

by_measure : (s : List ℕ) (b : Bool) → Measured b s → nat_eq (length s) (length (encode_utf8_all s)) ≡ b
by_measure s true m = ap (λ bytes. nat_eq (length s) (length bytes)) m ∙ alike (length s)
  where
    alike : (n : ℕ) → nat_eq n n ≡ true
    alike n = grind arith
by_measure s false m = grind arith

pub same_length : (s : List ℕ) → nat_eq (length s) (length (encode_utf8_all s)) ≡ list_all is_ascii s
same_length s = by_measure s (list_all is_ascii s) (measured s)

own : (s : List ℕ) (b : Bool) → Measured b s → b ≡ true → encode_utf8_all s ≡ s
own s true m e = m
own s false m e = cc

pub own_bytes : (s : List ℕ) → list_all is_ascii s ≡ true → encode_utf8_all s ≡ s
own_bytes s = own s (list_all is_ascii s) (measured s)
