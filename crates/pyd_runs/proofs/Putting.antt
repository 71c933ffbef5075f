-- Functions of numbers that are the same but for one number.
use Rattle.std.proofs.Common.{◌≡◌, ◌≢◌, ℕ, ◌==◌, Bool, true, false, if◌then◌else◌, Option, None, Some, ◌⊎◌, inl, inr, refl, ap, sym, ◌∙◌, arith}
use Rattle.std.proofs.lemmas.Bool.Decides.{nat_tests}
use Rattle.pyd_runs.specs.Desks.{put_at}

-- a test of two numbers, by what they are
pub same_test : (n k : ℕ) → n ≡ k → (n == k) ≡ true
same_test n k h = grind (arith, nat_tests)

pub other_test : (n k : ℕ) → n ≢ k → (n == k) ≡ false
other_test n k h = grind (arith, nat_tests)

-- two numbers, by what a test of them gave
pub test_same : (n k : ℕ) → (n == k) ≡ true → n ≡ k
test_same n k e = grind (arith, nat_tests)

pub test_other : (n k : ℕ) → (n == k) ≡ false → n ≢ k
test_other n k e = grind (arith, nat_tests)

-- by cases on the number
pub at_cases : (n k : ℕ) → (n ≡ k) ⊎ (n ≢ k)
at_cases n k = grind (arith, nat_tests)

-- by cases on a test
pub if_cases : {A : Type 0} (b : Bool) (x y z : A) → (if b then x else y) ≡ z
    → ((b ≡ true) × (x ≡ z)) ⊎ ((b ≡ false) × (y ≡ z))
if_cases true x y z e = inl (refl, e)
if_cases false x y z e = inr (refl, e)

-- at the number and elsewhere
pub put_here : {A : Type 0} (f : ℕ → A) (k : ℕ) (a : A) → put_at f k a k ≡ a
put_here f k a = ap (λ b. if b then a else f k) (same_test k k refl)

pub put_else : {A : Type 0} (f : ℕ → A) (k : ℕ) (a : A) (n : ℕ) → n ≢ k → put_at f k a n ≡ f n
put_else f k a n other = ap (λ b. if b then a else f n) (other_test n k other)

pub put_same : {A : Type 0} (f : ℕ → A) (k : ℕ) (a : A) (n : ℕ) → n ≡ k → put_at f k a n ≡ a
put_same f k a n same = ap (λ b. if b then a else f n) (same_test n k same)

-- what stands at a number is what was put, or what stood there
pub put_cases : {A : Type 0} (f : ℕ → A) (k : ℕ) (a : A) (n : ℕ) (r : A) → put_at f k a n ≡ r
    → ((n ≡ k) × (a ≡ r)) ⊎ ((n ≢ k) × (f n ≡ r))
put_cases f k a n r e = elim (at_cases n k) [
  | inl same ↦ inl (same, sym (put_same f k a n same) ∙ e)
  | inr other ↦ inr (other, sym (put_else f k a n other) ∙ e)
]

-- where nothing was put, what stands stood there
pub put_none : {A : Type 0} (f : ℕ → Option A) (k n : ℕ) (x : A) → put_at f k None n ≡ Some x
    → (n ≢ k) × (f n ≡ Some x)
put_none f k n x e = elim (put_cases f k None n (Some x) e) [
  | inl here ↦ absurd (let z = here.1 in cc (z))
  | inr old ↦ old
]

-- nothing isn't something
pub none_apart : {A : Type 0} (o : Option A) (x : A) → o ≡ None → o ≡ Some x → ⊥
none_apart o x n e = absurd (cc (n, e))
