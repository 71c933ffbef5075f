-- Which quotes stand round a text, and what stands for a character between them.
use Rattle.std.proofs.Common.{◌≡◌, ◌≢◌, ◌↔◌, ℕ, zero, suc, ◌+◌, ◌*◌, ◌/◌, ◌%◌, ◌^◌, ◌<◌, ◌≤◌, Bool, true, false, not, ◌&&◌, ◌==◌, nat_lt, List, [], ◌∷◌, ◌++◌, length, get_or, codes, if◌then◌else◌, All, Contains, inl, inr, refl, ap, subst, ◌∙◌, arith, length-append}
use Rattle.std.specs.Char.{digit_char, digit_value}
use Rattle.std.specs.Str.Parse.{digits_value, digits_value_after}
use Rattle.std.proofs.Math.Nat.{pow-suc}
use Rattle.std.proofs.lemmas.Bool.{cases_lt}
use Rattle.std.proofs.lemmas.Bool.Decides.{nat_tests}
use Rattle.std.proofs.lemmas.List.Elements.{All-nil, All-push}
use Rattle.std.proofs.lemmas.List.Folds.{Any-from_list_any, list_any-from_Any}
use Rattle.std.proofs.lemmas.Str.{digit_value-digit_char}
use Rattle.unicode.specs.Rows.{value_in}
use Rattle.unicode.specs.GeneralCategory.{general_category}
use Rattle.ucd_category.specs.GeneralCategoryRows.{general_category_rows}
use Rattle.pyd_text.specs.Quoting.{backslash, single_quote, double_quote, is_printable, has, quote_of, hex_digits, hex_escape, escaped}
use Rattle.pyd_text.specs.Laws.{IsLowerHex, QuotingLaw}

-- the quotes

equal_tests : (x c : ℕ) → (x == c) ≡ true → x ≡ c
equal_tests x c h = grind (arith, nat_tests)

same_test : (c : ℕ) → (c == c) ≡ true
same_test c = grind (arith, nat_tests)

contained : (c : ℕ) (s : List ℕ) → has c s ≡ true → Contains s c
contained c s h =
    let some = Any-from_list_any (λ d. d == c) s h in
    let e = equal_tests some.1 c some.4 in
    (some.0, some.2, subst (λ x. get_or s some.0 x ≡ x) e some.3)

containing : (c : ℕ) (s : List ℕ) → Contains s c → has c s ≡ true
containing c s k = list_any-from_Any (λ d. d == c) s (k.0, c, k.1, k.2, same_test c)

chosen : (a b : Bool) → (if a && not b then double_quote else single_quote) ≡ double_quote → (a ≡ true) × (b ≡ false)
chosen true false e = (refl, refl)
chosen true true e = absurd (omega arith)
chosen false b e = absurd (omega arith)

other : (b : Bool) → (if b then double_quote else single_quote) ≢ double_quote → (if b then double_quote else single_quote) ≡ single_quote
other true h = absurd (h refl)
other false h = refl

has_none : (c : ℕ) (s : List ℕ) (b : Bool) → has c s ≡ b → ¬ Contains s c → b ≡ false
has_none c s true e h = absurd (h (contained c s e))
has_none c s false e h = refl

excluded : (c : ℕ) (s : List ℕ) → has c s ≡ false → ¬ Contains s c
excluded c s e k = absurd (let h : ⊥ = cc (containing c s k) in h)

double : (s : List ℕ) → (quote_of s ≡ double_quote) ↔ (Contains s single_quote × ¬ Contains s double_quote)
double s = (
  (λ e.
      let h = chosen (has single_quote s) (has double_quote s) e in
      (contained single_quote s h.0, excluded double_quote s h.1)),
  λ k.
      let some = containing single_quote s k.0 in
      let none = has_none double_quote s (has double_quote s) refl k.1 in
      rw (some, none) refl,
)

-- the characters

ten : is_printable 10 ≡ false
unfolding general_category value_in general_category_rows
ten = refl

thirteen : is_printable 13 ≡ false
unfolding general_category value_in general_category_rows
thirteen = refl

nine : is_printable 9 ≡ false
unfolding general_category value_in general_category_rows
nine = refl

apart : (c d : ℕ) → is_printable c ≡ true → is_printable d ≡ false → (c == d) ≡ false
apart c d e f = by_test (c == d) refl
  where
    by_test : (b : Bool) → (c == d) ≡ b → b ≡ false
    by_test true h = let k : c ≡ d = equal_tests c d h in let g : ⊥ = cc in absurd g
    by_test false h = refl

plain : (quote c : ℕ) → is_printable c ≡ true → c ≢ backslash → c ≢ quote → escaped quote c ≡ c ∷ []
plain quote c e h k =
    let first : (c == backslash) ≡ false = grind (arith, nat_tests) in
    let second : (c == quote) ≡ false = grind (arith, nat_tests) in
    rw (first, second, apart c 10 e ten, apart c 13 e thirteen, apart c 9 e nine, e) refl

two : (c : ℕ) → c < 0x100 → hex_escape c ≡ codes "\\x" ++ hex_digits 2 c
two c h = let f : nat_lt c 0x100 ≡ true = grind (arith, nat_tests) in rw f refl

four : (c : ℕ) → 0x100 ≤ c → c < 0x1_0000 → hex_escape c ≡ codes "\\u" ++ hex_digits 4 c
four c h k =
    let f : nat_lt c 0x100 ≡ false = grind (arith, nat_tests) in
    let g : nat_lt c 0x1_0000 ≡ true = grind (arith, nat_tests) in
    rw (f, g) refl

eight : (c : ℕ) → 0x1_0000 ≤ c → hex_escape c ≡ codes "\\U" ++ hex_digits 8 c
eight c h =
    let f : nat_lt c 0x100 ≡ false = grind (arith, nat_tests) in
    let g : nat_lt c 0x1_0000 ≡ false = grind (arith, nat_tests) in
    rw (f, g) refl

-- the digits

count : (k n : ℕ) → length (hex_digits k n) ≡ k
count zero n = refl
count (suc k) n = omega (arith, length-append (hex_digits k (n / 16)) (digit_char (n % 16) ∷ []), count k (n / 16))

value_last : (a d : ℕ) (s : List ℕ) → digits_value_after 16 a (s ++ d ∷ []) ≡ digits_value_after 16 a s * 16 + digit_value d
value_last a d [] = refl
value_last a d (c ∷ s) = value_last (a * 16 + digit_value c) d s

value : (k n : ℕ) → n < 16 ^ k → digits_value 16 (hex_digits k n) ≡ n
value zero n h = omega arith
value (suc k) n h =
    let wide : n < 16 ^ k * 16 = subst (λ m. n < m) (pow-suc 16 k) h in
    let low : n / 16 < 16 ^ k = omega arith in
    let small : n % 16 < 36 = omega arith in
    let whole : n / 16 * 16 + n % 16 ≡ n = omega arith in
    value_last 0 (digit_char (n % 16)) (hex_digits k (n / 16))
    ∙ ap (λ x. x * 16 + digit_value (digit_char (n % 16))) (value k (n / 16) low)
    ∙ ap (λ d. n / 16 * 16 + d) (digit_value-digit_char (n % 16) small)
    ∙ whole

hex_digit : (d : ℕ) → d < 16 → IsLowerHex (digit_char d)
hex_digit d h =
    elim (cases_lt d 10) [
      | inl low ↦ let f : nat_lt d 10 ≡ true = grind (arith, nat_tests) in rw f (inl (omega arith, omega arith))
      | inr high ↦ let f : nat_lt d 10 ≡ false = grind (arith, nat_tests) in rw f (inr (omega arith, omega arith))
    ]

lower_case : (k n : ℕ) → All IsLowerHex (hex_digits k n)
lower_case zero n = All-nil IsLowerHex
lower_case (suc k) n =
    let small : n % 16 < 16 = omega arith in
    All-push IsLowerHex (hex_digits k (n / 16)) (digit_char (n % 16)) (lower_case k (n / 16)) (hex_digit (n % 16) small)

pub quoting_law : QuotingLaw
quoting_law = record {
  double = double;
  single = λ s h. other (has single_quote s && not (has double_quote s)) h;
  plain = plain;
  two = two;
  four = four;
  eight = eight;
  length = count;
  value = value;
  lower_case = lower_case;
}
