-- Runs of digits: where one ends is determined, and so is the number that it spells.
use Rattle.std.proofs.Common.{◌≡◌, ℕ, zero, suc, ◌<◌, ◌≤◌, ◌^◌, List, [], ◌∷◌, ◌++◌, length, take, drop, get_or, refl, ap, sym, ◌∙◌, subst, arith, append_assoc}
use Rattle.std.specs.Fmt.{decimal}
use Rattle.std.specs.List.{All}
use Rattle.std.proofs.lemmas.List.Elements.{All-head, All-tail}
use Rattle.std.specs.Char.{IsAsciiDigit, digit_value}
use Rattle.std.specs.Str.Parse.{AllDigits}
use Rattle.std.proofs.lemmas.Fmt.{decimal_is_IsNumeral, decimal_injective, decimal_digit, first_decimal, decimal-digits_value}
use Rattle.std.proofs.lemmas.Str.Parse.{digit_from_value, numerals_by_value, tells_digits}
use Rattle.std.proofs.lemmas.Bool.Decides.{nat_tests}
use Rattle.pyd_trace.specs.Text.{field_text, fields_text}
use Rattle.pyd_trace.specs.Laws.{OneDecimal}
use Rattle.pyd_trace.specs.Guessing.{NoDigit, GuessesField}

-- a digit in front of a rest that has none there
digit_first : (c : ℕ) (cs r : List ℕ) → digit_value c < 10 → NoDigit r → r ≡ c ∷ cs → ⊥
digit_first c cs r digit ends e = (subst NoDigit e ends) (digit_from_value c digit)

-- two runs of digits of one text are one
pub same_digits : (xs ys r s : List ℕ) → AllDigits 10 xs → AllDigits 10 ys → NoDigit r → NoDigit s → xs ++ r ≡ ys ++ s → (xs ≡ ys) × (r ≡ s)
same_digits [] [] r s p q nr ns e = (refl, e)
same_digits [] (y ∷ ys) r s p q nr ns e = absurd (digit_first y (ys ++ s) r q.0 nr e)
same_digits (x ∷ xs) [] r s p q nr ns e = absurd (digit_first x (xs ++ r) s p.0 ns (sym e))
same_digits (x ∷ xs) (y ∷ ys) r s p q nr ns e =
    let first : x ≡ y = cc in
    let tails : xs ++ r ≡ ys ++ s = cc in
    let rest = same_digits xs ys r s p.1 q.1 nr ns tails in
    (ap (λ n. n ∷ xs) first ∙ ap (λ zs. y ∷ zs) rest.0, rest.1)

-- digits that begin as a number's text does are that text
pub digits_of_number : (n : ℕ) (xs r s : List ℕ) → n < 2 ^ 64 → AllDigits 10 xs → NoDigit r → NoDigit s → xs ++ r ≡ decimal n ++ s → (xs ≡ decimal n) × (r ≡ s)
digits_of_number n xs r s fits digits nr ns e = same_digits xs (decimal n) r s digits (decimal_is_IsNumeral n fits).0.1 nr ns e

-- two numbers in front of one text are one
pub same_number : (n m : ℕ) (r s : List ℕ) → n < 2 ^ 64 → m < 2 ^ 64 → NoDigit r → NoDigit s → decimal n ++ r ≡ decimal m ++ s → (n ≡ m) × (r ≡ s)
same_number n m r s fits fits' nr ns e =
    let both = digits_of_number m (decimal n) r s fits' (decimal_is_IsNumeral n fits).0.1 nr ns e in
    (decimal_injective n m fits fits' both.0, both.1)

digit_value-digit : (c : ℕ) → IsAsciiDigit c → digit_value c < 10
digit_value-digit c digit = grind (arith, nat_tests)

-- digits at each of the first places
pub digits_take : (n : ℕ) (bs : List ℕ) → n ≤ length bs → ((k : ℕ) → k < n → IsAsciiDigit (get_or bs k 0)) → AllDigits 10 (take n bs)
digits_take zero bs le digits = tt
digits_take (suc n) [] le digits = tt
digits_take (suc n) (b ∷ bs) le digits =
    (digit_value-digit b (digits 0 (omega arith)), digits_take n bs (omega arith) (λ k lt. digits (suc k) (omega arith)))

-- no digit stands where they end
pub no_digit_drop : (n : ℕ) (bs : List ℕ) → (n < length bs → ¬ IsAsciiDigit (get_or bs n 0)) → NoDigit (drop n bs)
no_digit_drop zero [] ends digit = absurd (omega (arith, digit.0))
no_digit_drop zero (b ∷ bs) ends digit = ends (omega arith) digit
no_digit_drop (suc n) [] ends digit = absurd (omega (arith, digit.0))
no_digit_drop (suc n) (b ∷ bs) ends digit = no_digit_drop n bs (λ lt. ends (omega arith)) digit

-- a space and a newline are no digits
pub no_digit_space : (bs : List ℕ) → NoDigit (32 ∷ bs)
no_digit_space bs digit = absurd (omega (arith, digit.0))

pub no_digit_newline : (bs : List ℕ) → NoDigit (10 ∷ bs)
no_digit_newline bs digit = absurd (omega (arith, digit.0))

plain_decimal : (n : ℕ) → n < 2 ^ 64 → get_or (decimal n) 0 0 ≡ 48 → length (decimal n) ≡ 1
plain_decimal zero fits first = ap length (decimal_digit 0 (omega arith))
plain_decimal (suc n) fits first = absurd (omega (arith, first, first_decimal (suc n) (omega arith) fits))

-- the decimal text of a number is its one text
pub one_decimal : OneDecimal
one_decimal = record {
  plain = λ n fits. record { numeral = (decimal_is_IsNumeral n fits).0; plain = plain_decimal n fits };
  value = λ n fits. (decimal_is_IsNumeral n fits).1;
  only = λ digits is fits. decimal-digits_value (numerals_by_value (AllDigits 10) tells_digits) digits is.numeral.1 is.numeral.0 is.plain fits;
}

-- a number of the widest type
abbrev pub Wide : ℕ → Type 0
Wide n = n < 2 ^ 64

-- fields in front of a rest
pub fields-next : (n : ℕ) (ns r : List ℕ) → fields_text (n ∷ ns) ++ r ≡ 32 ∷ (decimal n ++ (fields_text ns ++ r))
fields-next n ns r = append_assoc (field_text n) (fields_text ns) r

-- no digit stands behind a number of a list of fields
pub no_digit_fields : (ns r : List ℕ) → NoDigit r → NoDigit (fields_text ns ++ r)
no_digit_fields [] r ends = ends
no_digit_fields (n ∷ ns) r ends = subst NoDigit (sym (fields-next n ns r)) (no_digit_space (decimal n ++ (fields_text ns ++ r)))

newline_space : (r s : List ℕ) → 10 ∷ r ≡ 32 ∷ s → ⊥
newline_space r s e =
    absurd (omega (arith, ap (λ bs. get_or bs 0 0) e))

-- fields that a newline ends are determined
pub same_fields : (ns ms r s : List ℕ) → All Wide ns → All Wide ms → fields_text ns ++ 10 ∷ r ≡ fields_text ms ++ 10 ∷ s → (ns ≡ ms) × (r ≡ s)
same_fields [] [] r s p q e =
    let rests : r ≡ s = cc in (refl, rests)
same_fields [] (m ∷ ms) r s p q e = absurd (newline_space r _ (e ∙ fields-next m ms (10 ∷ s)))
same_fields (n ∷ ns) [] r s p q e = absurd (newline_space s _ (sym e ∙ fields-next n ns (10 ∷ r)))
same_fields (n ∷ ns) (m ∷ ms) r s p q e =
    let both : 32 ∷ (decimal n ++ (fields_text ns ++ 10 ∷ r)) ≡ 32 ∷ (decimal m ++ (fields_text ms ++ 10 ∷ s)) = sym (fields-next n ns (10 ∷ r)) ∙ e ∙ fields-next m ms (10 ∷ s) in
    let numbers : decimal n ++ (fields_text ns ++ 10 ∷ r) ≡ decimal m ++ (fields_text ms ++ 10 ∷ s) = cc in
    let first = same_number n m _ _ (All-head Wide n ns p) (All-head Wide m ms q) (no_digit_fields ns (10 ∷ r) (no_digit_newline r)) (no_digit_fields ms (10 ∷ s) (no_digit_newline s)) numbers in
    let rest = same_fields ns ms r s (All-tail Wide n ns p) (All-tail Wide m ms q) first.1 in
    (ap (λ k. k ∷ ns) first.0 ∙ ap (λ ks. m ∷ ks) rest.0, rest.1)

-- up to three fields, one after the other
pub guesses : (bytes one two three : List ℕ) (a b c : ℕ) (numbers rest : List ℕ) → GuessesField bytes a one → GuessesField one b two → GuessesField two c three → length numbers ≤ 3
    → All Wide numbers → NoDigit rest → bytes ≡ fields_text numbers ++ rest → take (length numbers) (a ∷ b ∷ c ∷ []) ≡ numbers
guesses bytes one two three a b c [] rest p q r few fit ends is = refl
guesses bytes one two three a b c (n ∷ []) rest p q r few fit ends is =
    let first = p n rest (All-head Wide n [] fit) ends (is ∙ fields-next n [] rest) in ap (λ k. k ∷ []) first.0
guesses bytes one two three a b c (n ∷ m ∷ []) rest p q r few fit ends is =
    let first = p n (fields_text (m ∷ []) ++ rest) (All-head Wide n (m ∷ []) fit) (no_digit_fields (m ∷ []) rest ends) (is ∙ fields-next n (m ∷ []) rest) in
    let second = q m rest (All-head Wide m [] (All-tail Wide n (m ∷ []) fit)) ends (first.1 ∙ fields-next m [] rest) in
    ap (λ k. k ∷ b ∷ []) first.0 ∙ ap (λ k. n ∷ k ∷ []) second.0
guesses bytes one two three a b c (n ∷ m ∷ l ∷ []) rest p q r few fit ends is =
    let first = p n (fields_text (m ∷ l ∷ []) ++ rest) (All-head Wide n (m ∷ l ∷ []) fit) (no_digit_fields (m ∷ l ∷ []) rest ends) (is ∙ fields-next n (m ∷ l ∷ []) rest) in
    let fits = All-tail Wide n (m ∷ l ∷ []) fit in
    let second = q m (fields_text (l ∷ []) ++ rest) (All-head Wide m (l ∷ []) fits) (no_digit_fields (l ∷ []) rest ends) (first.1 ∙ fields-next m (l ∷ []) rest) in
    let third = r l rest (All-head Wide l [] (All-tail Wide m (l ∷ []) fits)) ends (second.1 ∙ fields-next l [] rest) in
    ap (λ k. k ∷ b ∷ c ∷ []) first.0 ∙ ap (λ k. n ∷ k ∷ c ∷ []) second.0 ∙ ap (λ k. n ∷ m ∷ k ∷ []) third.0
guesses bytes one two three a b c (n ∷ m ∷ l ∷ k ∷ numbers) rest p q r few fit ends is = absurd (omega (arith, few))
