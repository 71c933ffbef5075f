-- How far the last number of a range may lie.
use Rattle.std.proofs.Common.{◌≡◌, ℕ, zero, suc, ◌*◌, ◌/◌, ◌<◌, ◌≤◌, ℤ, pos, negsuc, ◌+ℤ◌, ◌-ℤ◌, ◌*ℤ◌, ◌≤ℤ◌, nat_le, int_lt, unsigned_abs, Bool, true, false, refl, sym, arith}
use Rattle.std.proofs.lemmas.Int.{ints}
use Rattle.std.proofs.Math.Nat.{le-div_iff_mul-le}
use Rattle.std.proofs.Math.IntN.{pos-*ℤ-negsuc}
use Rattle.pyd_value.specs.Limits.{integer_bound, greatest_integer}
use Rattle.pyd_ops.specs.Integer.{is_within}
use Rattle.pyd_ops.proofs.Limits.{below, below_when}

-- tests of which each gives the other
same_test : (a b : Bool) → (a ≡ true → b ≡ true) → (b ≡ true → a ≡ true) → a ≡ b
same_test true b f g = sym (f refl)
same_test false true f g = g refl
same_test false false f g = refl

at_most : (n m : ℕ) → nat_le n m ≡ true → n ≤ m
at_most n m h = grind arith

test_at_most : (n m : ℕ) → n ≤ m → nat_le n m ≡ true
test_at_most n m h = grind arith

-- a number within the limits lies between them
high : (g : ℕ) (z : ℤ) → suc g ≡ integer_bound → is_within z ≡ true → z ≤ℤ pos g
high g (pos n) e h = let k = below_when n integer_bound h in omega (arith, ints)
high g (negsuc n) e h = omega (arith, ints)

low : (g : ℕ) (z : ℤ) → suc g ≡ integer_bound → is_within z ≡ true → negsuc g ≤ℤ z
low g (pos n) e h = omega (arith, ints)
low g (negsuc n) e h = let k = below_when n integer_bound h in omega (arith, ints)

-- and one between them is within
inside : (g : ℕ) (z : ℤ) → suc g ≡ integer_bound → negsuc g ≤ℤ z → z ≤ℤ pos g → is_within z ≡ true
inside g (pos n) e l h = below n integer_bound (omega (arith, ints))
inside g (negsuc n) e l h = below n integer_bound (omega (arith, ints))

-- the size of what isn't negative
size_of : (z : ℤ) → pos 0 ≤ℤ z → pos (unsigned_abs z) ≡ z
size_of (pos n) h = refl
size_of (negsuc n) h = absurd (impossible n h)
  where
    impossible : (n : ℕ) → pos 0 ≤ℤ negsuc n → ⊥
    impossible n h = omega (arith, ints)

no_room : (a b : ℤ) → a ≤ℤ b → pos 0 ≤ℤ (b -ℤ a)
no_room a b h = omega (arith, ints)

-- going up
up : (g : ℕ) (a : ℤ) (s last r : ℕ) → suc g ≡ integer_bound → is_within a ≡ true → pos r ≡ pos g -ℤ a → 0 < s
    → nat_le last (r / s) ≡ is_within (a +ℤ (pos last *ℤ pos s))
up g a s last r e w is p =
    let k = le-div_iff_mul-le {k = s} {x = last} {y = r} p in
    same_test _ _
    (λ h. let m : last * s ≤ r = k.0 (at_most last (r / s) h) in let l = low g a e w in inside g (a +ℤ (pos last *ℤ pos s)) e (omega (arith, ints)) (omega (arith, ints)))
    (λ h. let m = high g (a +ℤ (pos last *ℤ pos s)) e h in let n : last * s ≤ r = omega (arith, ints) in test_at_most last (r / s) (k.1 n))

-- going down
down : (g : ℕ) (a : ℤ) (s last r : ℕ) → suc g ≡ integer_bound → is_within a ≡ true → pos r ≡ a -ℤ negsuc g
    → nat_le last (r / suc s) ≡ is_within (a +ℤ (pos last *ℤ negsuc s))
down g a s last r e w is =
    let k = le-div_iff_mul-le {k = suc s} {x = last} {y = r} (omega arith) in
    let d = pos-*ℤ-negsuc last s in
    same_test _ _
    (λ h. let m : last * suc s ≤ r = k.0 (at_most last (r / suc s) h) in let u = high g a e w in inside g (a +ℤ (pos last *ℤ negsuc s)) e (omega (arith, ints)) (omega (arith, ints)))
    (λ h. let m = low g (a +ℤ (pos last *ℤ negsuc s)) e h in let n : last * suc s ≤ r = omega (arith, ints) in test_at_most last (r / suc s) (k.1 n))

none_below : (s : ℕ) → int_lt (pos 0) (pos (suc s)) ≡ false → ⊥
none_below s p = grind arith

none_above : int_lt (pos 0) (pos 0) ≡ true → ⊥
none_above p = grind arith

-- the last number of a range that goes up, by the room above its first
pub reaches_up : (a step : ℤ) (last : ℕ) → is_within a ≡ true → int_lt (pos 0) step ≡ true
    → nat_le last (unsigned_abs (pos greatest_integer -ℤ a) / unsigned_abs step) ≡ is_within (a +ℤ (pos last *ℤ step))
reaches_up a (negsuc s) last w p = cc
reaches_up a (pos zero) last w p = absurd (none_above p)
reaches_up a (pos (suc s)) last w p =
    up greatest_integer a (suc s) last _ refl w (size_of _ (no_room a (pos greatest_integer) (high greatest_integer a refl w))) (omega arith)

-- and of one that goes down, by the room below its first
pub reaches_down : (a step : ℤ) (last : ℕ) → is_within a ≡ true → int_lt (pos 0) step ≡ false → (step ≡ pos 0 → ⊥)
    → nat_le last (unsigned_abs (a -ℤ negsuc greatest_integer) / unsigned_abs step) ≡ is_within (a +ℤ (pos last *ℤ step))
reaches_down a (negsuc s) last w p ne =
    down greatest_integer a s last _ refl w (size_of _ (no_room (negsuc greatest_integer) a (low greatest_integer a refl w)))
reaches_down a (pos zero) last w p ne = absurd (ne refl)
reaches_down a (pos (suc s)) last w p ne = absurd (none_below s p)
