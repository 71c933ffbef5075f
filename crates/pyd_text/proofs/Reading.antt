-- The text of an integer is read as that integer.
use Rattle.std.proofs.Common.{◌≡◌, ℕ, suc, ◌<◌, ◌≤◌, ◌^◌, ℤ, pos, negsuc, neg_ℤ, Bool, true, false, not, ◌&&◌, ◌==◌, nat_lt, List, [], ◌∷◌, length, reverse, Some, None, option_map, Ok, All, if◌then◌else◌, refl, ap, ◌∙◌, arith}
use Rattle.std.specs.Prelude.{filter}
use Rattle.std.specs.Char.{is_ascii_digit, digit_value}
use Rattle.std.specs.Fmt.{decimal, signed_decimal}
use Rattle.std.specs.List.{list_all, slice_split}
use Rattle.std.specs.Str.Parse.{AllDigits, digits_value}
use Rattle.std.proofs.lemmas.Bool.Decides.{nat_tests}
use Rattle.std.proofs.lemmas.Fmt.{decimal_is_IsNumeral_wide}
use Rattle.std.proofs.lemmas.List.{reverse-reverse, reverse-append}
use Rattle.std.proofs.lemmas.List.Elements.{All-nil, All-cons}
use Rattle.std.proofs.lemmas.List.Folds.{list_all-append}
use Rattle.std.proofs.lemmas.List.Splits.{slice_split_none}
use Rattle.pyd_value.specs.declared.value.Value.{Int}
use Rattle.pyd_value.specs.Limits.{integer_bound}
use Rattle.pyd_value.specs.Truth.{has_item}
use Rattle.pyd_value.proofs.Constructs.{shape_of-int, shape_of-text}
use Rattle.pyd_ops.specs.Integer.{is_within}
use Rattle.pyd_text.specs.Quoting.{space}
use Rattle.pyd_text.specs.Numerals.{plus, minus, underscore, is_readable, without_spaces_before, strip, is_digits, is_numeral, numeral, signed, signed_numeral}
use Rattle.pyd_text.specs.Texts.{repr, str, str_in, int_of_text, int_in}
use Rattle.pyd_text.specs.Laws.{IntReadsStr}
use Rattle.pyd_text.proofs.Reprs.{repr-int}

-- whether a character is no space
abbrev no_space : ℕ → Bool
no_space c = not (c == space)

both : (p q : Bool) → p && q ≡ true → (p ≡ true) × (q ≡ true)
both true true e = (refl, refl)
both true false e = cc
both false q e = cc

-- a text without spaces is stripped already

before_same : (s : List ℕ) → list_all no_space s ≡ true → without_spaces_before s ≡ s
before_same [] h = refl
before_same (c ∷ s) h =
    let first = both (no_space c) (list_all no_space s) h in
    by_test (c == space) refl first.0
  where
    by_test : (b : Bool) → (c == space) ≡ b → no_space c ≡ true → without_spaces_before (c ∷ s) ≡ c ∷ s
    by_test true e k = absurd (let f : ⊥ = cc in f)
    by_test false e k = rw e refl

and_comm : (p q : Bool) → p && q ≡ q && p
and_comm true true = refl
and_comm true false = refl
and_comm false true = refl
and_comm false false = refl

and_true : (p : Bool) → p && true ≡ p
and_true true = refl
and_true false = refl

list_all-reverse : (p : ℕ → Bool) (s : List ℕ) → list_all p (reverse s) ≡ list_all p s
list_all-reverse p [] = refl
list_all-reverse p (c ∷ s) =
    ap (list_all p) (reverse-append (c ∷ []) s) ∙ list_all-append p (reverse s) (c ∷ [])
    ∙ ap (λ b. b && (p c && true)) (list_all-reverse p s)
    ∙ ap (λ b. list_all p s && b) (and_true (p c)) ∙ and_comm (list_all p s) (p c)

strip_same : (s : List ℕ) → list_all no_space s ≡ true → strip s ≡ s
strip_same s h =
    ap (λ t. reverse (without_spaces_before (reverse t))) (before_same s h)
    ∙ ap reverse (before_same (reverse s) (list_all-reverse no_space s ∙ h))
    ∙ reverse-reverse s

-- digits are what each step wants

record Digit (c : ℕ) : Type 0 where
  digit : is_ascii_digit c ≡ true
  readable : is_readable c ≡ true
  apart : no_space c ≡ true
  single : (c == underscore) ≡ false
  unsigned : (c == minus) ≡ false
  unplussed : (c == plus) ≡ false

digit_of : (c : ℕ) → digit_value c < 10 → Digit c
digit_of c h =
    let low : 48 ≤ c = grind (arith, nat_tests) in
    let high : c ≤ 57 = grind (arith, nat_tests) in
    record {
      digit = grind (arith, nat_tests);
      readable = grind (arith, nat_tests);
      apart = grind (arith, nat_tests);
      single = grind (arith, nat_tests);
      unsigned = grind (arith, nat_tests);
      unplussed = grind (arith, nat_tests);
    }

abbrev Digits : List ℕ → Type 0
Digits [] = Unit
Digits (c ∷ s) = Digit c × Digits s

digits_of : (s : List ℕ) → AllDigits 10 s → Digits s
digits_of [] h = tt
digits_of (c ∷ s) h = (digit_of c h.0, digits_of s h.1)

all_digits : (s : List ℕ) → Digits s → list_all is_ascii_digit s ≡ true
all_digits [] d = refl
all_digits (c ∷ s) d = rw d.0.digit (all_digits s d.1)

all_readable : (s : List ℕ) → Digits s → list_all is_readable s ≡ true
all_readable [] d = refl
all_readable (c ∷ s) d = rw d.0.readable (all_readable s d.1)

all_apart : (s : List ℕ) → Digits s → list_all no_space s ≡ true
all_apart [] d = refl
all_apart (c ∷ s) d = rw d.0.apart (all_apart s d.1)

undivided : (s : List ℕ) → Digits s → All (λ c. (c == underscore) ≡ false) s
undivided [] d = All-nil (λ c. (c == underscore) ≡ false)
undivided (c ∷ s) d = All-cons (λ x. (x == underscore) ≡ false) c s d.0.single (undivided s d.1)

all_kept : (s : List ℕ) → Digits s → filter is_ascii_digit s ≡ s
all_kept [] d = refl
all_kept (c ∷ s) d = rw d.0.digit (ap (λ t. c ∷ t) (all_kept s d.1))

some : (s : List ℕ) → 0 < length s → has_item s ≡ true
some [] h = absurd (omega arith)
some (c ∷ s) h = refl

-- a numeral of digits alone is one, of the number that they write
numeral_of : (s : List ℕ) → 0 < length s → Digits s → numeral s ≡ Some (digits_value 10 s)
numeral_of s h d =
    let one : slice_split (λ c. c == underscore) s ≡ s ∷ [] = slice_split_none (λ c. c == underscore) s (undivided s d) in
    let is : is_numeral s ≡ true =
    ap (list_all is_digits) one ∙ and_true (is_digits s) ∙ ap (λ b. b && list_all is_ascii_digit s) (some s h) ∙ all_digits s d in
    ap (λ b. if b then Some (digits_value 10 (filter is_ascii_digit s)) else None) is
    ∙ ap (λ t. Some (digits_value 10 t)) (all_kept s d)

unsigned_of : (s : List ℕ) → 0 < length s → Digits s → signed_numeral s ≡ Some (pos (digits_value 10 s))
unsigned_of [] h d = absurd (omega arith)
unsigned_of (c ∷ s) h d = rw (d.0.unsigned, d.0.unplussed) (ap (option_map (signed false)) (numeral_of (c ∷ s) h d))

-- what is written is read

read : (s : List ℕ) (n : ℤ) (at : ℕ) → list_all is_readable s ≡ true → list_all no_space s ≡ true → signed_numeral s ≡ Some n
    → is_within n ≡ true → int_of_text s at ≡ Ok (Int n)
read s n at r a e w =
    let t = ap signed_numeral (strip_same s a) ∙ e in
    rw (r, t, w) refl

small : (m : ℕ) → nat_lt m integer_bound ≡ true → suc m < 10 ^ 64
small m h = let below : m < integer_bound = grind (arith, nat_tests) in omega arith

read_decimal : (n : ℤ) (at : ℕ) → is_within n ≡ true → int_of_text (signed_decimal n) at ≡ Ok (Int n)
read_decimal (pos m) at w =
    let wide : m < 10 ^ 64 = let h = small m w in omega arith in
    let is = decimal_is_IsNumeral_wide m wide in
    let d = digits_of (decimal m) is.0.1 in
    read (decimal m) (pos m) at (all_readable (decimal m) d) (all_apart (decimal m) d)
    (unsigned_of (decimal m) is.0.0 d ∙ ap (λ n. Some (pos n)) is.1) w
read_decimal (negsuc m) at w =
    let s = decimal (suc m) in
    let is = decimal_is_IsNumeral_wide (suc m) (small m w) in
    let d = digits_of s is.0.1 in
    let negative : signed_numeral (minus ∷ s) ≡ Some (negsuc m) =
    ap (option_map (signed true)) (numeral_of s is.0.0 d) ∙ ap (λ n. Some (neg_ℤ (pos n))) is.1 in
    read (minus ∷ s) (negsuc m) at (all_readable s d) (all_apart s d) negative w

pub int_reads_str : IntReadsStr
int_reads_str n at w =
    ap (λ x. int_in x at) (shape_of-text (str (Int n)))
    ∙ ap (λ s. int_of_text s at) (ap (λ x. str_in x (repr (Int n))) (shape_of-int n) ∙ repr-int n)
    ∙ read_decimal n at w
