-- A range has its numbers within the limits, and targets take what they are given.
use Rattle.std.proofs.Common.{◌≡◌, ℕ, zero, suc, ◌*◌, ◌<◌, ◌≤◌, ℤ, pos, negsuc, ◌+ℤ◌, ◌*ℤ◌, ◌≤ℤ◌, nat_lt, Bool, true, false, ◌&&◌, refl, ap, ◌∙◌, arith}
use Rattle.std.proofs.lemmas.Int.{ints}
use Rattle.std.proofs.Math.Nat.{mul-le-mul_right}
use Rattle.std.proofs.Math.IntN.{pos-*ℤ-negsuc}
use Rattle.pyd_value.specs.Limits.{integer_bound}
use Rattle.pyd_value.specs.Truth.{is_nonzero}
use Rattle.pyd_ops.specs.declared.ranges.Span.{Span}
use Rattle.pyd_ops.specs.Integer.{is_within}
use Rattle.pyd_ops.specs.Ranges.{number_at}
use Rattle.pyd_ops.proofs.Limits.{below, below_when}
use Rattle.pyd_meaning.specs.Loops.{all_within}
use Rattle.pyd_meaning.specs.LoopLaws.{RangeLaw}

-- a number that isn't negative and has one within the limits above it
under : (n : ℕ) (high : ℤ) → is_within high ≡ true → pos n ≤ℤ high → nat_lt n integer_bound ≡ true
under n (pos m) within le = let k = below_when m integer_bound within in below n integer_bound (omega (arith, ints))
under n (negsuc m) within le = absurd (impossible n m le)
  where
    impossible : (n m : ℕ) → pos n ≤ℤ negsuc m → ⊥
    impossible n m le = omega (arith, ints)

-- a negative number that has one within the limits below it
above : (n : ℕ) (low : ℤ) → is_within low ≡ true → low ≤ℤ negsuc n → nat_lt n integer_bound ≡ true
above n (negsuc m) within le = let k = below_when m integer_bound within in below n integer_bound (omega (arith, ints))
above n (pos m) within le = absurd (impossible n m le)
  where
    impossible : (n m : ℕ) → pos m ≤ℤ negsuc n → ⊥
    impossible n m le = omega (arith, ints)

-- a number between two that are within the limits is within them
between : (low z high : ℤ) → is_within low ≡ true → is_within high ≡ true → low ≤ℤ z → z ≤ℤ high → is_within z ≡ true
between low (pos n) high p q l h = under n high q h
between low (negsuc n) high p q l h = above n low p l

-- numbers that go up
rising : (a : ℤ) (s t last : ℕ) → t ≤ last → (a ≤ℤ (a +ℤ (pos t *ℤ pos s))) × ((a +ℤ (pos t *ℤ pos s)) ≤ℤ (a +ℤ (pos last *ℤ pos s)))
rising a s t last le = let m : t * s ≤ last * s = mul-le-mul_right s le in (omega (arith, ints), omega (arith, ints))

-- numbers that go down
falling : (a : ℤ) (s t last : ℕ) → t ≤ last → ((a +ℤ (pos t *ℤ negsuc s)) ≤ℤ a) × ((a +ℤ (pos last *ℤ negsuc s)) ≤ℤ (a +ℤ (pos t *ℤ negsuc s)))
falling a s t last le =
    let m : t * suc s ≤ last * suc s = mul-le-mul_right (suc s) le in
    let d = pos-*ℤ-negsuc t s in
    let e = pos-*ℤ-negsuc last s in
    (omega (arith, ints), omega (arith, ints))

-- a number between the first and the last
inside : (a s : ℤ) (t last : ℕ) → t ≤ last → is_within a ≡ true → is_within (a +ℤ (pos last *ℤ s)) ≡ true → is_within (a +ℤ (pos t *ℤ s)) ≡ true
inside a (pos s) t last le p q = let r = rising a s t last le in between a _ _ p q r.0 r.1
inside a (negsuc s) t last le p q = let r = falling a s t last le in between _ _ a q p r.1 r.0

-- both of two tests
both : (p q : Bool) → p && q ≡ true → (p ≡ true) × (q ≡ true)
both true true h = (refl, refl)
both true false h = cc
both false q h = cc

-- each number is within the limits
each_within : (span : Span) (count : ℕ) → all_within span count ≡ true → (t : ℕ) → t < count → is_within (number_at span t) ≡ true
each_within span zero all t lt = absurd (omega arith)
each_within span (suc last) all t lt =
    let two = both (is_within span.from) (is_within (number_at span last)) all in
    inside span.from span.step t last (omega arith) two.0 two.1

-- number 0 is the first
first : (a s : ℤ) → a +ℤ (pos 0 *ℤ s) ≡ a
first a s = omega (arith, ints)

-- the tests hold of numbers within the limits
tests_hold : (span : Span) (count : ℕ) → ((t : ℕ) → t < count → is_within (number_at span t) ≡ true) → all_within span count ≡ true
tests_hold span zero each = refl
tests_hold span (suc last) each =
    rw (← ap is_within (first span.from span.step), each 0 (omega arith), each last (omega arith)) refl

-- what a range has
pub range : RangeLaw
range span count = (
  λ is. let two = both (is_nonzero span.step) (all_within span count) is in (two.0, each_within span count two.1),
  λ has. ap (λ b. b && all_within span count) has.0 ∙ tests_hold span count has.1,
)
