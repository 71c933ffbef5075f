-- Quotes, escapes and their digits.
use Rattle.std.proofs.Common.{◌≡◌, ℕ, zero, suc, ◌+◌, ◌-◌, ◌/◌, ◌%◌, ◌<◌, Bool, true, false, not, ◌&&◌, ◌==◌, List, [], ◌∷◌, ◌++◌, length, encode_utf8, append-nil, if◌then◌else◌, refl, sym, ap, ◌∙◌, arith}
use Rattle.std.specs.Char.{digit_char}
use Rattle.std.specs.List.{flat_map}
use Rattle.std.proofs.lemmas.Bool.Decides.{nat_tests}
use Rattle.std.proofs.lemmas.Str.{encode_ascii}
use Rattle.pyd_text.specs.declared.quoting.Form.TheVariants.{Hexadecimal}
use Rattle.pyd_text.specs.Quoting.{single_quote, double_quote, backslash, has, quote_of, hex_digits, escaped, quoted}
use Rattle.pyd_text.specs.Writing.{byte_count, written}
use Rattle.pyd_text.proofs.Counting.{byte_count-append}

-- whether a text has a character is told by its first one or by what is left
pub has_first : (c d : ℕ) (s all : List ℕ) → all ≡ d ∷ s → d ≡ c → has c all ≡ true
has_first c d s all e h =
    let f : (d == c) ≡ true = grind (arith, nat_tests) in
    ap (has c) e ∙ rw f refl

pub has_later : (c d : ℕ) (s all : List ℕ) → all ≡ d ∷ s → (d ≡ c → ⊥) → has c s ≡ has c all
has_later c d s all e h =
    let f : (d == c) ≡ false = grind (arith, nat_tests) in
    sym (ap (has c) e ∙ rw f refl)

one_of : (b : Bool) → (if b then double_quote else single_quote) < 128
one_of true = omega arith
one_of false = omega arith

-- quotes are of ASCII
pub quote_small : (s : List ℕ) → quote_of s < 128
quote_small s = one_of (has single_quote s && not (has double_quote s))

-- a character of ASCII takes one byte
pub byte_count-ascii : (c : ℕ) → c < 128 → byte_count (c ∷ []) ≡ 1
byte_count-ascii c h = ap (λ x. length (x ++ [])) (encode_ascii c h)

-- the quotes take a byte each
pub byte_count-quoted : (s : List ℕ) → byte_count (quoted s) ≡ 2 + byte_count (flat_map (escaped (quote_of s)) s)
byte_count-quoted s =
    let q = quote_of s in
    let body = flat_map (escaped q) s in
    let first : byte_count (q ∷ (body ++ q ∷ [])) ≡ byte_count (q ∷ []) + byte_count (body ++ q ∷ []) =
    byte_count-append (q ∷ []) (body ++ q ∷ []) in
    let last : byte_count (body ++ q ∷ []) ≡ byte_count body + byte_count (q ∷ []) = byte_count-append body (q ∷ []) in
    let one : byte_count (q ∷ []) ≡ 1 = byte_count-ascii q (quote_small s) in
    omega arith

digit_char_small : (d : ℕ) → d < 16 → digit_char d < 128
digit_char_small d h = grind arith

-- a hexadecimal digit takes a byte
pub byte_count-hex_digits : (k n : ℕ) → byte_count (hex_digits k n) ≡ k
byte_count-hex_digits zero n = refl
byte_count-hex_digits (suc k) n =
    let small : n % 16 < 16 = omega arith in
    let both : byte_count (hex_digits (suc k) n) ≡ byte_count (hex_digits k (n / 16)) + byte_count (digit_char (n % 16) ∷ []) =
    byte_count-append (hex_digits k (n / 16)) (digit_char (n % 16) ∷ []) in
    let front = byte_count-hex_digits k (n / 16) in
    let one : byte_count (digit_char (n % 16) ∷ []) ≡ 1 = byte_count-ascii (digit_char (n % 16)) (digit_char_small (n % 16) small) in
    omega arith

-- the last digit stands behind those of the rest
pub hex_digits-last : (k n : ℕ) → (k ≡ 0 → ⊥) → hex_digits k n ≡ hex_digits (k - 1) (n / 16) ++ digit_char (n % 16) ∷ []
hex_digits-last zero n h = absurd (h refl)
hex_digits-last (suc k) n h =
    let e : k ≡ suc k - 1 = omega arith in
    ap (λ j. hex_digits j (n / 16) ++ digit_char (n % 16) ∷ []) e

-- the bytes of a hexadecimal escape
pub hexadecimal_count : (letter digits code a b : ℕ) → a ≡ length (encode_utf8 letter) → b ≡ digits
    → 1 + a + b ≡ byte_count (written (Hexadecimal letter digits code))
hexadecimal_count letter digits code a b e f =
    let first : byte_count (backslash ∷ letter ∷ hex_digits digits code) ≡ byte_count (backslash ∷ []) + byte_count (letter ∷ hex_digits digits code) =
    byte_count-append (backslash ∷ []) (letter ∷ hex_digits digits code) in
    let second : byte_count (letter ∷ hex_digits digits code) ≡ byte_count (letter ∷ []) + byte_count (hex_digits digits code) =
    byte_count-append (letter ∷ []) (hex_digits digits code) in
    let one : byte_count (backslash ∷ []) ≡ 1 = byte_count-ascii backslash (omega arith) in
    let alone : byte_count (letter ∷ []) ≡ length (encode_utf8 letter) = ap length (append-nil (encode_utf8 letter)) in
    let last = byte_count-hex_digits digits code in
    omega arith
