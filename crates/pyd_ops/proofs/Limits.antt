-- What fits 128 bits is what is within the limits of integers.
use Rattle.std.proofs.Common.{◌≡◌, ℕ, ℤ, pos, negsuc, ◌<◌, nat_lt, Option, Some, None, cond, true, false, refl, sym, ap, ◌∙◌, arith, FitsSigned, SomeIff, ◌≤◌, Bool, to_z, of_z}
use Rattle.std.proofs.lemmas.Int.{to_z-of_z}
use Rattle.std.specs.Int.{w128}
use Rattle.pyd_value.specs.Limits.{integer_bound}
use Rattle.pyd_ops.specs.Integer.{is_within, within}

pub below : (n m : ℕ) → n < m → nat_lt n m ≡ true
below n m h = grind arith

not_below : (n m : ℕ) → m ≤ n → nat_lt n m ≡ false
not_below n m h = grind arith

pub below_when : (n m : ℕ) → nat_lt n m ≡ true → n < m
below_when n m h = grind arith

pub fits_within : (z : ℤ) → FitsSigned w128 z → is_within z ≡ true
fits_within (pos n) h = below n integer_bound h.sfits
fits_within (negsuc n) h = below n integer_bound h.sfits

pub within_fits : (z : ℤ) → is_within z ≡ true → FitsSigned w128 z
within_fits (pos n) h = record { sfits = below_when n integer_bound h }
within_fits (negsuc n) h = record { sfits = below_when n integer_bound h }

pub some_within : (z : ℤ) → FitsSigned w128 z → within z ≡ Some z
some_within z h = ap (λ b. cond b (Some z) None) (fits_within z h)

by_test : (z : ℤ) (b : Bool) → is_within z ≡ b → (FitsSigned w128 z → ⊥) → within z ≡ None
by_test z true e h = absurd (h (within_fits z e))
by_test z false e h = ap (λ b. cond b (Some z) None) e

pub fits_not : (z : ℤ) → (FitsSigned w128 z → ⊥) → within z ≡ None
fits_not z h = by_test z (is_within z) refl h

pub from_checked : (o : Option ℤ) (z : ℤ) → SomeIff o (FitsSigned w128 z) z → o ≡ within z
from_checked None z h = sym (fits_not z h)
from_checked (Some x) z h = ap Some h.1 ∙ sym (some_within z h.0)

-- a number that 128 bits hold is answered as it is
pub holds : (x y : ℤ) → x ≡ y → FitsSigned w128 y → Some (to_z w128 (of_z w128 x)) ≡ within y
holds x y e h = ap (λ z. Some (to_z w128 (of_z w128 z))) e ∙ ap Some (to_z-of_z w128 y h) ∙ sym (some_within y h)
