-- Powers and shifts: few bases and exponents stay within the limits.
use Rattle.std.proofs.Common.{◌≡◌, ◌≢◌, ℕ, zero, suc, ◌-◌, ◌*◌, ◌%◌, ◌<◌, ◌≤◌, ◌^◌, ℤ, pos, negsuc, neg_ℤ, ◌*ℤ◌, Bool, true, false, cond, ◌==◌, Option, Some, None, refl, sym, ap, ◌∙◌, arith, FitsSigned, SomeIff, to_z, of_z, ◌⊎◌, inl, inr}
use Rattle.std.specs.Int.{w128, int_pow}
use Rattle.std.proofs.lemmas.Int.{to_z-of_z, to_z_pos}
use Rattle.std.proofs.lemmas.Nat.{one_shl, pow_below}
use Rattle.std.proofs.Math.Nat.{pow-le-pow_left, pow-suc, mul-le-mul_right}
use Rattle.std.proofs.Math.Pow.{pow_mono}
use Rattle.pyd_value.specs.Limits.{integer_bound}
use Rattle.pyd_ops.specs.Integer.{within}
use Rattle.pyd_ops.proofs.Limits.{fits_not, from_checked}
use Rattle.pyd_ops.proofs.Division.{zero_seen}

one_power : (n : ℕ) → 1 ^ n ≡ 1
one_power zero = refl
one_power (suc n) = omega (arith, pow-suc 1 n, one_power n)

none_power : (n : ℕ) → n ≢ 0 → 0 ^ n ≡ 0
none_power zero h = absurd (h refl)
none_power (suc n) h = omega (arith, pow-suc 0 n)

pub power_of_none : (n : ℕ) → n ≢ 0 → Some (pos 0) ≡ within (int_pow (pos 0) n)
power_of_none n h = ap (λ k. within (pos k)) (sym (none_power n h))

pub power_of_one : (n : ℕ) → Some (pos 1) ≡ within (int_pow (pos 1) n)
power_of_one n = ap (λ k. within (pos k)) (sym (one_power n))

pub even_power : (n : ℕ) → n % 2 ≡ 0 → Some (pos 1) ≡ within (int_pow (negsuc 0) n)
even_power n e =
    sym (ap (λ k. within (cond (n % 2 == 0) (pos k) (neg_ℤ (pos k)))) (one_power n) ∙ ap (λ r. within (cond (r == 0) (pos 1) (neg_ℤ (pos 1)))) e)

pub odd_power : (n : ℕ) → n % 2 ≢ 0 → Some (negsuc 0) ≡ within (int_pow (negsuc 0) n)
odd_power n h =
    sym (ap (λ k. within (cond (n % 2 == 0) (pos k) (neg_ℤ (pos k)))) (one_power n) ∙ ap (λ b. within (cond b (pos 1) (neg_ℤ (pos 1)))) (unequal (n % 2) h))
  where
    unequal : (r : ℕ) → r ≢ 0 → (r == 0) ≡ false
    unequal r h = grind arith

great : (m n : ℕ) → 2 ≤ m → 128 ≤ n → 2 ^ 128 ≤ m ^ n
great m n h k = omega (arith, pow-le-pow_left h n, pow_mono k)

too_great : (k : ℕ) → 2 ^ 128 ≤ k → FitsSigned w128 (pos k) → ⊥
too_great k h f = omega (arith, f.sfits)

too_low : (k : ℕ) → 2 ^ 128 ≤ k → FitsSigned w128 (neg_ℤ (pos k)) → ⊥
too_low zero h f = omega arith
too_low (suc k) h f = omega (arith, f.sfits)

either_way : (b : Bool) (k : ℕ) → 2 ^ 128 ≤ k → FitsSigned w128 (cond b (pos k) (neg_ℤ (pos k))) → ⊥
either_way true k h f = too_great k h f
either_way false k h f = too_low k h f

-- a base that isn't 0, 1 or -1
pub power_past : (m : ℤ) (n : ℕ) → m ≢ pos 0 → m ≢ pos 1 → m ≢ negsuc 0 → 128 ≤ n → None ≡ within (int_pow m n)
power_past (pos zero) n p q r h = absurd (p refl)
power_past (pos (suc zero)) n p q r h = absurd (q refl)
power_past (pos (suc (suc m))) n p q r h = sym (fits_not _ (too_great (suc (suc m) ^ n) (great (suc (suc m)) n (omega arith) h)))
power_past (negsuc zero) n p q r h = absurd (r refl)
power_past (negsuc (suc m)) n p q r h =
    sym (fits_not _ (either_way (n % 2 == 0) (suc (suc m) ^ n) (great (suc (suc m)) n (omega arith) h)))

-- shifts to the left
pub shift_past : (m : ℤ) (n : ℕ) → m ≢ pos 0 → (m ≡ negsuc 0 → n ≢ 127) → 127 ≤ n → None ≡ within (m *ℤ pos (2 ^ n))
shift_past (pos zero) n p q h = absurd (p refl)
shift_past (pos (suc m)) n p q h = sym (fits_not _ (λ f. past (suc m * 2 ^ n) (far m n h) f))
  where
    far : (m n : ℕ) → 127 ≤ n → integer_bound ≤ suc m * 2 ^ n
    far m n h =
        let k : 1 * 2 ^ n ≤ suc m * 2 ^ n = mul-le-mul_right (2 ^ n) (omega arith) in
        omega (arith, k, pow_mono h)

    past : (k : ℕ) → integer_bound ≤ k → FitsSigned w128 (pos k) → ⊥
    past k h f = omega (arith, f.sfits)
shift_past (negsuc zero) n p q h = sym (fits_not _ (λ f. too_low (1 * 2 ^ n) (farther n h (q refl)) f))
  where
    farther : (n : ℕ) → 127 ≤ n → n ≢ 127 → 2 ^ 128 ≤ 1 * 2 ^ n
    farther n h k = let l : 128 ≤ n = omega arith in omega (arith, pow_mono l)
shift_past (negsuc (suc m)) n p q h = sym (fits_not _ (λ f. too_low (suc (suc m) * 2 ^ n) (twice m n h) f))
  where
    twice : (m n : ℕ) → 127 ≤ n → 2 ^ 128 ≤ suc (suc m) * 2 ^ n
    twice m n h =
        let k : 2 * 2 ^ n ≤ suc (suc m) * 2 ^ n = mul-le-mul_right (2 ^ n) (omega arith) in
        omega (arith, k, pow_mono h)

-- as the calls read their arguments

minus_one_seen : (m : ℤ) → FitsSigned w128 m → of_z w128 m ≡ 2 ^ 128 - 1 → m ≡ negsuc 0
minus_one_seen (pos n) f e = absurd (wide n f.sfits e)
  where
    wide : (n : ℕ) → n < integer_bound → n ≡ 2 ^ 128 - 1 → ⊥
    wide n h e = omega arith
minus_one_seen (negsuc n) f e = ap negsuc (least n f.sfits e)
  where
    least : (n : ℕ) → n < integer_bound → 2 ^ 128 - suc n ≡ 2 ^ 128 - 1 → n ≡ 0
    least n h e = omega arith

unseen : (m z : ℤ) → (of_z w128 m ≡ of_z w128 z → ⊥) → m ≢ z
unseen m z h e = h (ap (of_z w128) e)

one_seen : (m : ℤ) → FitsSigned w128 m → of_z w128 m ≡ 1 → m ≡ pos 1
one_seen (pos n) f e = ap pos e
one_seen (negsuc n) f e = absurd (wide n f.sfits e)
  where
    wide : (n : ℕ) → n < integer_bound → 2 ^ 128 - suc n ≡ 1 → ⊥
    wide n h e = omega arith

pub base_kept : (m : ℤ) (n : ℕ) → FitsSigned w128 m → 128 ≤ n → (of_z w128 m ≡ 0) ⊎ (of_z w128 m ≡ 1) → Some (to_z w128 (of_z w128 m)) ≡ within (int_pow m n)
base_kept m n f l (inl e) =
    let z = zero_seen m f e in
    ap Some (to_z-of_z w128 m f ∙ z) ∙ power_of_none n (λ k. few n l k) ∙ ap (λ x. within (int_pow x n)) (sym z)
  where
    few : (n : ℕ) → 128 ≤ n → n ≡ 0 → ⊥
    few n l k = omega arith
base_kept m n f l (inr e) =
    let z = one_seen m f e in
    ap Some (to_z-of_z w128 m f ∙ z) ∙ power_of_one n ∙ ap (λ x. within (int_pow x n)) (sym z)

pub even_base : (m : ℤ) (n : ℕ) → FitsSigned w128 m → of_z w128 m ≡ 2 ^ 128 - 1 → n % 2 ≡ 0 → Some (pos 1) ≡ within (int_pow m n)
even_base m n f e h = even_power n h ∙ ap (λ x. within (int_pow x n)) (sym (minus_one_seen m f e))

pub odd_base : (m : ℤ) (n : ℕ) → FitsSigned w128 m → of_z w128 m ≡ 2 ^ 128 - 1 → (n % 2 ≡ 0 → ⊥) → Some (negsuc 0) ≡ within (int_pow m n)
odd_base m n f e h = odd_power n h ∙ ap (λ x. within (int_pow x n)) (sym (minus_one_seen m f e))

pub base_past : (m : ℤ) (n : ℕ) → (of_z w128 m ≡ 0 → ⊥) → (of_z w128 m ≡ 1 → ⊥) → (of_z w128 m ≡ 2 ^ 128 - 1 → ⊥) → 128 ≤ n → None ≡ within (int_pow m n)
base_past m n p q r h = power_past m n (unseen m (pos 0) p) (unseen m (pos 1) q) (unseen m (negsuc 0) r) h

-- shifts
pub power_of_two : (n : ℕ) → n < 127 → to_z w128 ((1 * 2 ^ n) % 2 ^ 128) ≡ pos (2 ^ n)
power_of_two n h =
    let l : n < 128 = omega arith in
    ap (to_z w128) (one_shl n 128 l) ∙ to_z_pos w128 (2 ^ n) (pow_below n 127 h)

pub shifts : (o : Option ℤ) (m : ℤ) (n : ℕ) → FitsSigned w128 m → n < 127
    → SomeIff o (FitsSigned w128 (to_z w128 (of_z w128 m) *ℤ to_z w128 ((1 * 2 ^ n) % 2 ^ 128))) (to_z w128 (of_z w128 m) *ℤ to_z w128 ((1 * 2 ^ n) % 2 ^ 128))
    → o ≡ within (m *ℤ pos (2 ^ n))
shifts o m n f l h =
    from_checked o _ h ∙ ap (λ x. within (x *ℤ to_z w128 ((1 * 2 ^ n) % 2 ^ 128))) (to_z-of_z w128 m f) ∙ ap (λ x. within (m *ℤ x)) (power_of_two n l)

pub shifts_past : (m : ℤ) (n : ℕ) → FitsSigned w128 m → 127 ≤ n → (of_z w128 m ≡ 0 → ⊥)
    → ((of_z w128 m ≡ 2 ^ 128 - 1) × (n ≡ 127 → ⊥)) ⊎ (of_z w128 m ≡ 2 ^ 128 - 1 → ⊥) → None ≡ within (m *ℤ pos (2 ^ n))
shifts_past m n f l h (inl k) = shift_past m n (unseen m (pos 0) h) (λ e. k.1) l
shifts_past m n f l h (inr k) = shift_past m n (unseen m (pos 0) h) (λ e. absurd (unseen m (negsuc 0) k e)) l
