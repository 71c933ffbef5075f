-- Numerals, from their first character on, and the numbers that they write.
use Rattle.std.proofs.Common.{◌≡◌, ℕ, ◌+◌, ◌-◌, ◌*◌, min, Bool, true, false, cond, ◌&&◌, ◌==◌, List, [], ◌∷◌, refl, sym, ap, ◌∙◌, arith}
use Rattle.std.specs.Prelude.{filter}
use Rattle.std.specs.Char.{is_ascii_digit, is_ascii, digit_value}
use Rattle.std.specs.List.{list_all, slice_split, onto_first}
use Rattle.std.specs.Str.Parse.{digits_value_after}
use Rattle.std.proofs.lemmas.Bool.Decides.{nat_tests}
use Rattle.std.proofs.lemmas.List.Splits.{slice_split-cons_no}
use Rattle.pyd_value.specs.declared.fault.Limit.TheVariants as limit
use Rattle.pyd_ops.specs.Answer.{exceed}
use Rattle.pyd_text.specs.Texts.{int_of_text}
use Rattle.pyd_text.specs.Numerals.{underscore, is_readable, is_digits, is_numeral}

-- the parts of a text between its underscores
abbrev parts : List ℕ → List (List ℕ)
parts = slice_split (λ c. c == underscore)

-- whether digits and underscores stand as they may behind a digit, given by their parts
abbrev continues : List (List ℕ) → Bool
continues [] = true
continues (g ∷ gs) = list_all is_ascii_digit g && list_all is_digits gs

first_digit : (c : ℕ) (gs : List (List ℕ)) → is_ascii_digit c ≡ true → list_all is_digits (onto_first c gs) ≡ continues gs
first_digit c [] h = rw h refl
first_digit c (g ∷ gs) h = rw h refl

first_other : (c : ℕ) (gs : List (List ℕ)) → is_ascii_digit c ≡ false → list_all is_digits (onto_first c gs) ≡ false
first_other c [] h = rw h refl
first_other c (g ∷ gs) h = rw h refl

next_digit : (c : ℕ) (gs : List (List ℕ)) → is_ascii_digit c ≡ true → continues (onto_first c gs) ≡ continues gs
next_digit c [] h = rw h refl
next_digit c (g ∷ gs) h = rw h refl

next_other : (c : ℕ) (gs : List (List ℕ)) → is_ascii_digit c ≡ false → continues (onto_first c gs) ≡ false
next_other c [] h = rw h refl
next_other c (g ∷ gs) h = rw h refl

digit_no_underscore : (c : ℕ) → is_ascii_digit c ≡ true → (c == underscore) ≡ false
digit_no_underscore c h = grind (arith, nat_tests)

parts_no : (c : ℕ) (s : List ℕ) → (c == underscore) ≡ false → parts (c ∷ s) ≡ onto_first c (parts s)
parts_no c s h = slice_split-cons_no (λ d. d == underscore) c s h

numeral_digit : (c : ℕ) (s : List ℕ) → is_ascii_digit c ≡ true → is_numeral (c ∷ s) ≡ continues (parts s)
numeral_digit c s h =
    ap (list_all is_digits) (parts_no c s (digit_no_underscore c h)) ∙ first_digit c (parts s) h

numeral_other : (c : ℕ) (s : List ℕ) → is_ascii_digit c ≡ false → (c == underscore) ≡ false → is_numeral (c ∷ s) ≡ false
numeral_other c s h k = ap (list_all is_digits) (parts_no c s k) ∙ first_other c (parts s) h

-- what is left, behind a digit or not
abbrev pub state : Bool → List ℕ → Bool
state after s = cond after (is_numeral (48 ∷ s)) (is_numeral s)

-- a digit may stand anywhere
pub state_digit : (after : Bool) (c : ℕ) (s all : List ℕ) → all ≡ c ∷ s → is_ascii_digit c ≡ true → state after all ≡ is_numeral (48 ∷ s)
state_digit true c s all e h =
    ap (λ x. is_numeral (48 ∷ x)) e ∙ numeral_digit 48 (c ∷ s) refl
    ∙ ap continues (parts_no c s (digit_no_underscore c h)) ∙ next_digit c (parts s) h ∙ sym (numeral_digit 48 s refl)
state_digit false c s all e h = ap is_numeral e ∙ numeral_digit c s h ∙ sym (numeral_digit 48 s refl)

-- an underscore may stand behind a digit, and a digit stands behind it
pub state_underscore : (c : ℕ) (s all : List ℕ) → all ≡ c ∷ s → c ≡ underscore → is_numeral (48 ∷ all) ≡ is_numeral s
state_underscore c s all e h =
    ap (λ x. is_numeral (48 ∷ x)) (e ∙ ap (λ d. d ∷ s) h) ∙ numeral_digit 48 (underscore ∷ s) refl

pub state_first : (c : ℕ) (s all : List ℕ) → all ≡ c ∷ s → c ≡ underscore → is_numeral all ≡ false
state_first c s all e h = ap is_numeral (e ∙ ap (λ d. d ∷ s) h)

-- nothing else may stand
pub state_other : (after : Bool) (c : ℕ) (s all : List ℕ) → all ≡ c ∷ s → is_ascii_digit c ≡ false → (c ≡ underscore → ⊥) → state after all ≡ false
state_other true c s all e h k =
    let f : (c == underscore) ≡ false = grind (arith, nat_tests) in
    ap (λ x. is_numeral (48 ∷ x)) e ∙ numeral_digit 48 (c ∷ s) refl ∙ ap continues (parts_no c s f) ∙ next_other c (parts s) h
state_other false c s all e h k =
    let f : (c == underscore) ≡ false = grind (arith, nat_tests) in
    ap is_numeral e ∙ numeral_other c s h f

-- the number so far counts up to a cut
ten_more : (most a b d : ℕ) → min a most ≡ min b most → min (a * 10 + d) most ≡ min (b * 10 + d) most
ten_more most a b d h = omega arith

after_cut : (most a b : ℕ) (s : List ℕ) → min a most ≡ min b most → min (digits_value_after 10 a s) most ≡ min (digits_value_after 10 b s) most
after_cut most a b [] h = h
after_cut most a b (c ∷ s) h =
    after_cut most (a * 10 + digit_value c) (b * 10 + digit_value c) s (ten_more most a b (digit_value c) h)

-- one digit more
pub digit_more : (most n m c whole : ℕ) (s all : List ℕ) → all ≡ c ∷ s → is_ascii_digit c ≡ true
    → m ≡ min (min (n * 10) most + (c - 48)) most
    → min (digits_value_after 10 n (filter is_ascii_digit all)) most ≡ whole
    → min (digits_value_after 10 m (filter is_ascii_digit s)) most ≡ whole
digit_more most n m c whole s all e h f g =
    let d : digit_value c ≡ c - 48 = grind (arith, nat_tests) in
    let same : min m most ≡ min (n * 10 + digit_value c) most = omega arith in
    let first : filter is_ascii_digit all ≡ c ∷ filter is_ascii_digit s = ap (filter is_ascii_digit) e ∙ rw h refl in
    after_cut most m (n * 10 + digit_value c) (filter is_ascii_digit s) same
    ∙ ap (λ x. min (digits_value_after 10 n x) most) (sym first) ∙ g

-- what is no digit counts for nothing
pub digit_none : (most n c whole : ℕ) (s all : List ℕ) → all ≡ c ∷ s → is_ascii_digit c ≡ false
    → min (digits_value_after 10 n (filter is_ascii_digit all)) most ≡ whole
    → min (digits_value_after 10 n (filter is_ascii_digit s)) most ≡ whole
digit_none most n c whole s all e h g =
    let first : filter is_ascii_digit all ≡ filter is_ascii_digit s = ap (filter is_ascii_digit) e ∙ rw h refl in
    ap (λ x. min (digits_value_after 10 n x) most) (sym first) ∙ g

-- what is read is of ASCII
ascii_when_readable : (c : ℕ) → is_ascii c ≡ false → is_readable c ≡ false
ascii_when_readable c h = grind (arith, nat_tests)

and_false : (p q : Bool) → q ≡ false → p && q ≡ false
and_false true q e = e
and_false false q e = refl

later : (p q : Bool) → p ≡ true → p && q ≡ false → q ≡ false
later true q e h = h
later false q e h = cc

by_first : (c : ℕ) (s : List ℕ) (b : Bool) → is_ascii c ≡ b → (list_all is_ascii s ≡ false → list_all is_readable s ≡ false)
    → list_all is_ascii (c ∷ s) ≡ false → list_all is_readable (c ∷ s) ≡ false
by_first c s true e f h =
    and_false (is_readable c) (list_all is_readable s) (f (later (is_ascii c) (list_all is_ascii s) e h))
by_first c s false e f h = ap (λ b. b && list_all is_readable s) (ascii_when_readable c e)

pub not_readable : (s : List ℕ) → list_all is_ascii s ≡ false → list_all is_readable s ≡ false
not_readable [] h = cc
not_readable (c ∷ s) h = by_first c s (is_ascii c) refl (not_readable s) h

-- and what isn't is outside
pub outside : (s : List ℕ) (line : ℕ) → list_all is_readable s ≡ false → int_of_text s line ≡ exceed limit.Outside line
outside s line h = rw h refl
