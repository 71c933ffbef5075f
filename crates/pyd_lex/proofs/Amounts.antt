-- The value of digits never falls.
use Rattle.std.proofs.Common.{◌≡◌, ℕ, zero, suc, ◌+◌, ◌*◌, ◌≤◌, Bool, true, false, ◌==◌, [], ◌∷◌, length, drop, get_or, Option, None, Err, if◌then◌else◌, refl, sym, ap, subst, ◌∙◌, arith, inl, inr}
use Rattle.std.proofs.lemmas.Bool.{cases_Bool}
use Rattle.std.proofs.lemmas.Bool.Decides.{nat_tests}
use Rattle.std.specs.Char.{digit_value}
use Rattle.pyd_lex.specs.Words.{Text}
use Rattle.pyd_lex.specs.Numbers.{amount, bounded, number, radix, digits, is_digits, checked}
use Rattle.pyd_lex.specs.declared.fault.Flaw.TheVariants.{BadNumber}

pub amount_first : (base n x : ℕ) (z : Text) → 1 ≤ length z → x ≡ get_or z 0 x → (x ≡ 95 → ⊥) → amount base n z ≡ amount base (n * base + digit_value x) (drop 1 z)
amount_first base n x [] l e h = absurd (omega arith)
amount_first base n x (c ∷ z) l e h =
    let f : (x == 95) ≡ false = grind (arith, nat_tests) in
    subst (λ y. amount base n (y ∷ z) ≡ amount base (n * base + digit_value x) z) e (rw f refl)

more : (n base d : ℕ) → 1 ≤ base → n ≤ n * base + d
more n zero d h = absurd (omega arith)
more n (suc base) d h = grind arith

amount_grows : (base n : ℕ) (z : Text) → 1 ≤ base → n ≤ amount base n z
amount_grows base n [] h = omega arith
amount_grows base n (c ∷ z) h =
    elim (cases_Bool (c == 95)) [
      | inl t ↦ rw t (amount_grows base n z h)
      | inr f ↦
          let r = amount_grows base (n * base + digit_value c) z h in
          let m = more n base (digit_value c) h in
          rw f (omega arith)
    ]

wide : (n m : ℕ) → n ≤ m → bounded n ≡ None → bounded m ≡ None
wide n m l h = grind (arith, nat_tests)

pub wide_amount : (base n : ℕ) (z : Text) → 1 ≤ base → bounded n ≡ None → bounded (amount base n z) ≡ None
wide_amount base n z h w = wide n (amount base n z) (amount_grows base n z h) w

-- ---- a number by its parts

pub not_number : (z ds : Text) (base : ℕ) → base ≡ radix z → ds ≡ digits z → is_digits base ds ≡ false → number z ≡ Err BadNumber
unfolding number
not_number z ds base b d h =
    let e : is_digits (radix z) (digits z) ≡ false = (λ i. is_digits (sym b i) (sym d i)) ∙ h in
    ap (λ t. if t then checked (radix z) z (bounded (amount (radix z) 0 (digits z))) else Err BadNumber) e

pub a_number : (z ds : Text) (base : ℕ) (a : Option ℕ) → base ≡ radix z → ds ≡ digits z → is_digits base ds ≡ true → a ≡ bounded (amount base 0 ds) → number z ≡ checked base z a
unfolding number
a_number z ds base a b d h n =
    let e : is_digits (radix z) (digits z) ≡ true = (λ i. is_digits (sym b i) (sym d i)) ∙ h in
    ap (λ t. if t then checked (radix z) z (bounded (amount (radix z) 0 (digits z))) else Err BadNumber) e ∙ (λ i. checked (sym b i) z (bounded (amount (sym b i) 0 (sym d i)))) ∙ ap (checked base z) (sym n)

pub is_so : {x : Bool} (r b : Bool) → r ≡ x → r ≡ b → x ≡ b
is_so r b e f = sym e ∙ f
