-- Counts of bytes, and a text's characters as they are taken from its front.
use Rattle.std.proofs.Common.{◌≡◌, ℕ, zero, suc, ◌+◌, ◌≤◌, min, List, [], ◌∷◌, ◌++◌, length, encode_utf8_all, refl, sym, ap, ◌∙◌, arith, length-append}
use Rattle.std.specs.Str.{IsAscii, chars}
use Rattle.std.proofs.lemmas.Str.{encodes-append, encodes-IsAscii, chars-nil}
use Rattle.pyd_text.specs.Writing.{byte_count, cut, divider}

pub byte_count-append : (s t : List ℕ) → byte_count (s ++ t) ≡ byte_count s + byte_count t
byte_count-append s t =
    ap length (encodes-append s t) ∙ length-append (encode_utf8_all s) (encode_utf8_all t)

-- a short text of ASCII has as many bytes as characters
pub ascii_count : (r s : List ℕ) → r ≡ s → IsAscii r → length r ≤ 40 → length r ≡ cut (byte_count s)
ascii_count r s e a h =
    let f : byte_count s ≡ length r = ap byte_count (sym e) ∙ ap length (encodes-IsAscii r a) in
    let g : length r ≡ cut (length r) = omega arith in
    g ∙ ap cut (sym f)

-- one piece more of those that are counted
pub count_more : (start piece rest all left : List ℕ) (n m k cap whole : ℕ)
    → all ≡ start ++ (piece ++ rest) → left ≡ rest → byte_count start ≡ k
    → m ≡ min (min (n + k) cap + min (byte_count piece) cap) cap
    → min (n + byte_count all) cap ≡ whole
    → min (m + byte_count left) cap ≡ whole
count_more start piece rest all left n m k cap whole e f s g h =
    let c : byte_count all ≡ k + (byte_count piece + byte_count rest) =
    ap byte_count e ∙ byte_count-append start (piece ++ rest)
    ∙ ap (λ x. byte_count start + x) (byte_count-append piece rest)
    ∙ ap (λ x. x + (byte_count piece + byte_count rest)) s in
    let d : byte_count left ≡ byte_count rest = ap byte_count f in
    omega arith

-- one piece more with no divider
pub count_next : (piece rest all : List ℕ) (n m cap whole : ℕ)
    → all ≡ piece ++ rest → m ≡ min (n + byte_count piece) cap
    → min (n + byte_count all) cap ≡ whole
    → min (m + byte_count rest) cap ≡ whole
count_next piece rest all n m cap whole e g h =
    let c : byte_count all ≡ byte_count piece + byte_count rest = ap byte_count e ∙ byte_count-append piece rest in
    omega arith

-- a text between two others
pub between_count : (front r back : List ℕ) (n m k cap : ℕ) → n ≡ min (byte_count r) cap → m ≡ min (n + k) cap
    → byte_count front + byte_count back ≡ k → m ≡ min (byte_count (front ++ (r ++ back))) cap
between_count front r back n m k cap e f g =
    let outer : byte_count (front ++ (r ++ back)) ≡ byte_count front + byte_count (r ++ back) = byte_count-append front (r ++ back) in
    let inner : byte_count (r ++ back) ≡ byte_count r + byte_count back = byte_count-append r back in
    omega arith

-- a divider of ASCII takes a byte for each character
pub divider_count : (sep : List ℕ) → byte_count sep ≡ length sep → (i : ℕ) → byte_count (divider sep i) ≡ length (divider sep i)
divider_count sep e zero = refl
divider_count sep e (suc i) = e

-- a text with no byte has no character
pub chars_of_empty : (bs : List ℕ) → length bs ≡ 0 → chars bs ≡ []
chars_of_empty [] e = chars-nil
chars_of_empty (b ∷ bs) e = absurd (omega arith)
