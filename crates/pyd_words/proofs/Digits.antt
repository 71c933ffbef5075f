-- Numbers that are read of digits.
use Rattle.std.proofs.Common.{◌≡◌, ◌^◌, option_and_then, if◌then◌else◌, ◌<◌, ◌-◌, ◌&&◌, ℕ, Bool, true, false, length, nat_lt, nat_le, Result, Ok, Err, Some, None, refl, rules, arith, ap, sym, ◌∙◌, inl, inr}
use Rattle.std.specs.Char.{is_ascii_digit}
use Rattle.std.specs.List.{list_all}
use Rattle.std.specs.Result.{OkIff, result_ok}
use Rattle.std.specs.Str.Parse.{ParsesUnsigned, digits_value}
use Rattle.std.proofs.lemmas.Bool.{le-leb, lt-leb, ltb-true, cases_lt, and_right}
use Rattle.std.proofs.lemmas.Str.Parse.{IsNumeralModel, numerals_by_value, parse_digits}
use Rattle.clap.proofs.WalkLemmas.{both}
use Rattle.pyd_words.specs.declared.fault.WordsFault.TheVariants.{BadNumber, OutOfRange}
use Rattle.pyd_words.specs.Options.{Text, Numeral}
use Rattle.pyd_words.specs.Numbers as spec

-- digits as std knows them
own : IsNumeralModel (λ z. list_all is_ascii_digit z ≡ true) (digits_value 10)
own = numerals_by_value (λ z. list_all is_ascii_digit z ≡ true) (search rules)

-- all digits, of which there is one
pub record Digits (z : Text) : Type 0 where
  pub some : 0 < length z
  pub all : list_all is_ascii_digit z ≡ true

pub digits_in : (most : ℕ) (z : Text) → spec.is_digits most z ≡ true → Digits z
digits_in most z h =
    let first = both (nat_lt 0 (length z)) (nat_le (length z) most && list_all is_ascii_digit z) h in
    let rest = both (nat_le (length z) most) (list_all is_ascii_digit z) first.1 in
    record { some = ltb-true 0 (length z) first.0; all = rest.1 }

-- what digits parse to
pub parsed : {E : Type 0} (k most : ℕ) (z : Text) (r : Result ℕ E) → ParsesUnsigned k 10 z r → spec.is_digits most z ≡ true
    → OkIff r ((0 < length z) × (digits_value 10 z < 2 ^ k)) (digits_value 10 z)
parsed k most z r h d = parse_digits own k z r h (digits_in most z d).all

-- a text of digits is the number of a script that they write, if it is narrow
of_digits : (b : Bool) (n : ℕ) → b ≡ true → option_and_then spec.in_script (if b then Some n else None) ≡ spec.in_script n
of_digits true n h = refl
of_digits false n h = cc

narrow : (n : ℕ) → n < 2 ^ 32 → spec.in_script n ≡ Some n
narrow n h = ap (λ b. if b then Some n else None) (le-leb n (2 ^ 32 - 1) (omega arith))

wide : (n : ℕ) → (n < 2 ^ 32 → ⊥) → spec.in_script n ≡ None
wide n h = elim (cases_lt n (2 ^ 32)) [
  | inl small ↦ absurd (h small)
  | inr large ↦ ap (λ b. if b then Some n else None) (lt-leb n (2 ^ 32 - 1) (omega arith))
]

-- 32 bits hold the numbers of a script, and no others
pub script_read : {E : Type 0} (z : Text) (r : Result ℕ E) → ParsesUnsigned 32 10 z r → spec.is_digits spec.most_script_digits z ≡ true
    → result_ok r ≡ spec.script_number z
script_read {E} z (Ok n) h d =
    let p = parsed {E = E} 32 10 z (Ok n) h d in
    ap Some p.1 ∙ sym (narrow (digits_value 10 z) p.0.1) ∙ sym (of_digits (spec.is_digits 10 z) (digits_value 10 z) d)
script_read {E} z (Err e) h d =
    let p = parsed 32 10 z (Err e) h d in
    let one = (digits_in 10 z d).some in
    sym (wide (digits_value 10 z) (λ small. p (one, small))) ∙ sym (of_digits (spec.is_digits 10 z) (digits_value 10 z) d)

-- a text of digits is within the limits of its option where its number is
formed : (o : Numeral) (b : Bool) (n : ℕ) → b ≡ true → (if b then spec.within o n else Err BadNumber) ≡ spec.within o n
formed o true n h = refl
formed o false n h = cc

above : (o : Numeral) (n : ℕ) → o.most < n → spec.within o n ≡ Err OutOfRange
above o n h = ap (λ b. if b then Ok n else Err OutOfRange) (and_right (nat_le o.least n) (nat_le n o.most) (lt-leb n o.most h))

-- what 64 bits hold is looked at, and what they don't is above each limit
pub held : (E : Type 0) (o : Numeral) (z : Text) (n : ℕ) → ParsesUnsigned {E = E} 64 10 z (Ok n) → spec.is_digits spec.most_digits z ≡ true
    → spec.within o n ≡ spec.ranged o z
held E o z n h d =
    let p = parsed {E = E} 64 20 z (Ok n) h d in
    ap (spec.within o) p.1 ∙ sym (formed o (spec.is_digits 20 z) (digits_value 10 z) d)

pub beyond : {E : Type 0} (o : Numeral) (z : Text) (e : E) → ParsesUnsigned 64 10 z (Err e) → spec.is_digits spec.most_digits z ≡ true → o.most < 2 ^ 64
    → Err OutOfRange ≡ spec.ranged o z
beyond o z e h d low =
    let p = parsed 64 20 z (Err e) h d in
    let one = (digits_in 20 z d).some in
    elim (cases_lt (digits_value 10 z) (2 ^ 64)) [
      | inl small ↦ absurd (p (one, small))
      | inr large ↦ sym (above o (digits_value 10 z) (omega arith)) ∙ sym (formed o (spec.is_digits 20 z) (digits_value 10 z) d)
    ]
