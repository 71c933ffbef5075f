-- Quotient and remainder go together.
use Rattle.std.proofs.Common.{◌≡◌, ◌≢◌, ℕ, zero, suc, ◌+◌, ◌-◌, ◌*◌, ◌/◌, ◌%◌, ◌<◌, min, inl, inr, ℤ, pos, negsuc, neg_ℤ, ◌+ℤ◌, ◌*ℤ◌, refl, sym, ap, ◌∙◌, arith}
use Rattle.std.specs.Prelude.{◌<ℤ◌, ◌≤ℤ◌}
use Rattle.std.specs.Int.{div_ceil}
use Rattle.std.proofs.lemmas.Int.{ints}
use Rattle.std.proofs.lemmas.Nat.{div-add-mod', mod_below}
use Rattle.std.proofs.Math.Nat.{div-eq_of_lt}
use Rattle.std.proofs.Math.IntN.{pos-*ℤ-negsuc, negsuc-*ℤ-pos}
use Rattle.pyd_ops.specs.Arithmetic.{floor_div, floor_rem}
use Rattle.pyd_ops.proofs.Division.{grow, carry, either, nothing}
use Rattle.pyd_ops.specs.Laws.{DivisionLaw}

-- the sums, over plain quotients q and remainders r
sum_up : (m n q r : ℕ) → q * suc n + r ≡ m → pos m ≡ (pos (suc n) *ℤ pos q) +ℤ pos r
sum_up m n q r e = omega (arith, ints)

sum_low : (m n q r : ℕ) → q * suc n + r ≡ m → r < suc n → negsuc m ≡ (pos (suc n) *ℤ negsuc q) +ℤ pos (suc n - 1 - r)
sum_low m n q r e l =
    let k = pos-*ℤ-negsuc (suc n) q in
    omega (arith, ints)

sum_across : (a n q r : ℕ) → q * suc n + r ≡ a → r < suc n → pos (suc a) ≡ (negsuc n *ℤ negsuc q) +ℤ neg_ℤ (pos (suc n - 1 - r))
sum_across a n q r e l = omega (arith, ints)

sum_down : (m n q r : ℕ) → q * suc n + r ≡ suc m → negsuc m ≡ (negsuc n *ℤ pos q) +ℤ neg_ℤ (pos r)
sum_down m n q r e =
    let k = negsuc-*ℤ-pos n q in
    omega (arith, ints)

ceil_next : (a n : ℕ) → div_ceil (suc a) (suc n) ≡ suc (a / suc n)
ceil_next a n = elim (either a n) [ inl l ↦ grown a n (grow a (suc n) l) | inr e ↦ carried a n (carry a (suc n) (omega arith) e) ]
  where
    grown : (a n : ℕ) → (suc a / suc n ≡ a / suc n) × (suc a % suc n ≡ a % suc n + 1) → div_ceil (suc a) (suc n) ≡ suc (a / suc n)
    grown a n h = omega (arith, h.0, h.1)

    carried : (a n : ℕ) → (suc a / suc n ≡ a / suc n + 1) × (suc a % suc n ≡ 0) → div_ceil (suc a) (suc n) ≡ suc (a / suc n)
    carried a n h = omega (arith, h.0, h.1)

zero_times : (n : ℕ) → pos 0 ≡ (negsuc n *ℤ pos 0) +ℤ pos 0
zero_times n = let k = negsuc-*ℤ-pos n 0 in omega (arith, ints)

sum_zero : (n q r : ℕ) → q ≡ 0 → r ≡ 0 → pos 0 ≡ (negsuc n *ℤ neg_ℤ (pos (q + min 1 r))) +ℤ neg_ℤ (pos r)
sum_zero n q r e f =
    let k : 0 ≡ q + min 1 r = omega arith in
    zero_times n ∙ ap (λ k. (negsuc n *ℤ neg_ℤ (pos k)) +ℤ pos 0) k
    ∙ ap (λ k. (negsuc n *ℤ neg_ℤ (pos (q + min 1 r))) +ℤ neg_ℤ (pos k)) (sym f)

sum_of : (a b : ℤ) → b ≢ pos 0 → a ≡ (b *ℤ floor_div a b) +ℤ floor_rem a b
sum_of a (pos zero) h = absurd (h refl)
sum_of (pos m) (pos (suc n)) h = sum_up m n (m / suc n) (m % suc n) (div-add-mod' m (suc n))
sum_of (negsuc m) (pos (suc n)) h = sum_low m n (m / suc n) (m % suc n) (div-add-mod' m (suc n)) (mod_below m (suc n) (omega arith))
sum_of (pos zero) (negsuc n) h = sum_zero n (0 / suc n) (0 % suc n) (div-eq_of_lt (omega arith)) (nothing (suc n) (omega arith))
sum_of (pos (suc a)) (negsuc n) h =
    sum_across a n (a / suc n) (a % suc n) (div-add-mod' a (suc n)) (mod_below a (suc n) (omega arith))
    ∙ ap (λ q. (negsuc n *ℤ neg_ℤ (pos q)) +ℤ neg_ℤ (pos (suc n - 1 - a % suc n))) (sym (ceil_next a n))
sum_of (negsuc m) (negsuc n) h = sum_down m n (suc m / suc n) (suc m % suc n) (div-add-mod' (suc m) (suc n))

positive_of : (a b : ℤ) → pos 0 <ℤ b → (pos 0 ≤ℤ floor_rem a b) × (floor_rem a b <ℤ b)
positive_of a (pos zero) h = absurd (none h)
  where
    none : pos 0 <ℤ pos 0 → ⊥
    none h = omega (arith, ints)
positive_of (pos m) (pos (suc n)) h = let r = mod_below m (suc n) (omega arith) in (omega (arith, ints), omega (arith, ints))
positive_of (negsuc m) (pos (suc n)) h = let r = mod_below m (suc n) (omega arith) in (omega (arith, ints), omega (arith, ints))
positive_of a (negsuc n) h = absurd (none n h)
  where
    none : (n : ℕ) → pos 0 <ℤ negsuc n → ⊥
    none n h = omega (arith, ints)

negative_of : (a b : ℤ) → b <ℤ pos 0 → (b <ℤ floor_rem a b) × (floor_rem a b ≤ℤ pos 0)
negative_of a (pos n) h = absurd (none n h)
  where
    none : (n : ℕ) → pos n <ℤ pos 0 → ⊥
    none n h = omega (arith, ints)
negative_of (pos zero) (negsuc n) h = let r = mod_below 0 (suc n) (omega arith) in (omega (arith, ints), omega (arith, ints))
negative_of (pos (suc a)) (negsuc n) h = let r = mod_below a (suc n) (omega arith) in (omega (arith, ints), omega (arith, ints))
negative_of (negsuc m) (negsuc n) h = let r = mod_below (suc m) (suc n) (omega arith) in (omega (arith, ints), omega (arith, ints))

pub division_law : DivisionLaw
division_law = record { sum = sum_of; positive = positive_of; negative = negative_of }
