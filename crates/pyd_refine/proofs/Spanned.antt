-- Numbers of ranges by sums that wrap.
use Rattle.std.proofs.Common.{◌≡◌, ℕ, ◌+◌, ◌*◌, ◌%◌, ◌<◌, ℤ, pos, negsuc, ◌+ℤ◌, ◌*ℤ◌, int_lt, nat_lt, to_z, of_z, FitsSigned, Bool, true, false, Some, ap, ◌∙◌, arith}
use Rattle.std.specs.Int.{w128, int_wrap}
use Rattle.std.specs.Bool.{then_some}
use Rattle.std.proofs.lemmas.Int.{to_z-of_z, wrapping_add-bits, wrapping_mul_is, int_wrap-add_right, int_wrap_fits}
use Rattle.pyd_value.specs.declared.value.Value.{Value, Int}
use Rattle.pyd_ops.specs.declared.ranges.Span.{Span}
use Rattle.pyd_ops.specs.Integer.{is_within}
use Rattle.pyd_ops.specs.Ranges.{number_at}
use Rattle.pyd_ops.proofs.Limits.{within_fits}
use Rattle.pyd_meaning.specs.Loops.{is_range, numbers}
use Rattle.pyd_meaning.proofs.Ranges.{range}

bits_below : (z : ℤ) → FitsSigned w128 z → of_z w128 z < 340282366920938463463374607431768211456
bits_below (pos n) h = omega (arith, h.sfits)
bits_below (negsuc n) h = omega (arith, h.sfits)

remainder_below : (n : ℕ) → n % 340282366920938463463374607431768211456 < 340282366920938463463374607431768211456
remainder_below n = omega arith

-- a sum and a product that wrap are what they are without, where that is within the limits
pub wrapped_is : (a t s : ℤ) → FitsSigned w128 a → FitsSigned w128 t → FitsSigned w128 s
    → is_within (a +ℤ (t *ℤ s)) ≡ true
    → to_z w128 ((of_z w128 a + of_z w128 t * of_z w128 s % 340282366920938463463374607431768211456)
    % 340282366920938463463374607431768211456)
    ≡ a +ℤ (t *ℤ s)
wrapped_is a t s f g h k =
    wrapping_add-bits w128 (of_z w128 a) (of_z w128 t * of_z w128 s % 340282366920938463463374607431768211456)
    (bits_below a f) (remainder_below (of_z w128 t * of_z w128 s))
    ∙ (λ i. int_wrap w128 (to_z-of_z w128 a f i +ℤ wrapping_mul_is w128 t s g h i))
    ∙ int_wrap-add_right w128 a (t *ℤ s)
    ∙ int_wrap_fits w128 (a +ℤ (t *ℤ s)) (within_fits (a +ℤ (t *ℤ s)) k)

number_below : (turn m : ℕ) → int_lt (pos turn) (pos m) ≡ true → turn < m
number_below turn m h = grind arith

test_there : (b : Bool) (v w : Value) → b ≡ true → v ≡ w → Some v ≡ then_some b w
test_there true v w h e = ap Some e
test_there false v w h e = absurd (cc h)

module _ (span : Span) (turn : ℕ) where
  -- a number that is there
  pub there : (count n : ℤ) → is_range span count ≡ true → int_lt (pos turn) count ≡ true
      → (is_within (number_at span turn) ≡ true → n ≡ number_at span turn)
      → Some (Int (to_z w128 (of_z w128 n))) ≡ numbers span count turn
  there (pos m) n is below same =
      let within = ((range span m).0 is).1 turn (number_below turn m below) in
      test_there (nat_lt turn m) (Int (to_z w128 (of_z w128 n))) (Int (number_at span turn)) below
      (ap (λ z. Int (to_z w128 (of_z w128 z))) (same within)
      ∙ ap Int (to_z-of_z w128 (number_at span turn) (within_fits (number_at span turn) within)))
  there (negsuc m) n is below same = absurd (cc below)
