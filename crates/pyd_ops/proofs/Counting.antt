-- A range counts exactly the numbers before its end, and all of them are within 128 bits.
use Rattle.std.proofs.Common.{◌≡◌, ◌↔◌, ◌⊎◌, inl, inr, ℕ, zero, suc, ◌*◌, ◌<◌, ◌≤◌, min, ℤ, pos, negsuc, ◌+ℤ◌, ◌-ℤ◌, ◌*ℤ◌, Result, Ok, sym, ap, subst, arith}
use Rattle.std.specs.Prelude.{◌<ℤ◌}
use Rattle.std.specs.Int.{div_ceil}
use Rattle.std.proofs.lemmas.Int.{ints}
use Rattle.std.proofs.lemmas.Nat.{mul-le}
use Rattle.std.proofs.lemmas.Grind.{div_ceil_times}
use Rattle.std.proofs.Math.IntN.{pos-*ℤ-negsuc}
use Rattle.pyd_value.specs.declared.fault.Fault.{Fault}
use Rattle.pyd_value.specs.Limits.{greatest_integer}
use Rattle.pyd_ops.specs.declared.ranges.Span.{Span}
use Rattle.pyd_ops.specs.Integer.{positive_part}
use Rattle.pyd_ops.specs.Ranges.{count, span_of, number_at}
use Rattle.pyd_ops.specs.Laws.{IsBefore, RangeLaw}

choice : (t n : ℕ) → (t < n) ⊎ (n ≤ t)
choice t n = grind arith

below_ceil : (t x d : ℕ) → t < div_ceil x (suc d) → t * suc d < x
below_ceil t x d h =
    let m : suc t * suc d ≤ div_ceil x (suc d) * suc d = mul-le (suc t) (suc d) (div_ceil x (suc d)) (suc d) (omega arith) (omega arith) in
    omega (arith, div_ceil_times x (suc d) (omega arith))

ceil_above : (t x d : ℕ) → t * suc d < x → t < div_ceil x (suc d)
ceil_above t x d h = by_choice (choice t (div_ceil x (suc d)))
  where
    by_choice : (t < div_ceil x (suc d)) ⊎ (div_ceil x (suc d) ≤ t) → t < div_ceil x (suc d)
    by_choice (inl l) = l
    by_choice (inr l) =
        let m : div_ceil x (suc d) * suc d ≤ t * suc d = mul-le (div_ceil x (suc d)) (suc d) t (suc d) l (omega arith) in
        omega (arith, div_ceil_times x (suc d) (omega arith))

part_above : (m : ℕ) (z : ℤ) → m < positive_part z → pos m <ℤ z
part_above m (pos n) h = omega (arith, ints)
part_above m (negsuc n) h = absurd (none h)
  where
    none : m < 0 → ⊥
    none h = omega arith

above_part : (m : ℕ) (z : ℤ) → pos m <ℤ z → m < positive_part z
above_part m (pos n) h = omega (arith, ints)
above_part m (negsuc n) h = absurd (none h)
  where
    none : pos m <ℤ negsuc n → ⊥
    none h = omega (arith, ints)

-- what a span counts, with its count not yet cut
pub up_when : (a b : ℤ) (s t : ℕ) → t < count a b (pos (suc s)) → (a +ℤ (pos t *ℤ pos (suc s))) <ℤ b
up_when a b s t h =
    let k : pos (t * suc s) <ℤ (b -ℤ a) = part_above (t * suc s) (b -ℤ a) (below_ceil t (positive_part (b -ℤ a)) s h) in
    omega (arith, ints)

up_so : (a b : ℤ) (s t : ℕ) → (a +ℤ (pos t *ℤ pos (suc s))) <ℤ b → t < count a b (pos (suc s))
up_so a b s t h =
    ceil_above t (positive_part (b -ℤ a)) s (above_part (t * suc s) (b -ℤ a) (omega (arith, ints)))

pub down_when : (a b : ℤ) (s t : ℕ) → t < count a b (negsuc s) → b <ℤ (a +ℤ (pos t *ℤ negsuc s))
down_when a b s t h =
    let k : pos (t * suc s) <ℤ (a -ℤ b) = part_above (t * suc s) (a -ℤ b) (below_ceil t (positive_part (a -ℤ b)) s h) in
    let e = pos-*ℤ-negsuc t s in
    omega (arith, ints)

down_so : (a b : ℤ) (s t : ℕ) → b <ℤ (a +ℤ (pos t *ℤ negsuc s)) → t < count a b (negsuc s)
down_so a b s t h =
    let e = pos-*ℤ-negsuc t s in
    ceil_above t (positive_part (a -ℤ b)) s (above_part (t * suc s) (a -ℤ b) (omega (arith, ints)))

pub cut_when : (t n : ℕ) → pos t <ℤ pos (min n greatest_integer) → t < n
cut_when t n h = omega (arith, ints)

cut_so : (t n : ℕ) → t < greatest_integer → t < n → pos t <ℤ pos (min n greatest_integer)
cut_so t n h k = omega (arith, ints)

abbrev pub Counted : ℤ → ℤ → ℤ → Span
Counted a b s = record { from = a; step = s; count = pos (min (count a b s) greatest_integer) }

pub same_span : (x y : Span) → ◌≡◌ {A = Result Span Fault} (Ok x) (Ok y) → x ≡ y
same_span x y e = cc

counts_of : (a b s : ℤ) (r : Span) (t line : ℕ) → span_of a b s line ≡ Ok r → t < greatest_integer
    → (pos t <ℤ r.count) ↔ IsBefore s (number_at r t) b
counts_of a b (pos zero) r t line e l = absurd (none e)
  where
    none : span_of a b (pos zero) line ≡ Ok r → ⊥
    none e = cc
counts_of a b (pos (suc s)) r t line e l =
    subst (λ x. (pos t <ℤ x.count) ↔ IsBefore (pos (suc s)) (number_at x t) b) (same_span (Counted a b (pos (suc s))) r e)
    (λ h. up_when a b s t (cut_when t _ h), λ h. cut_so t _ l (up_so a b s t h))
counts_of a b (negsuc s) r t line e l =
    subst (λ x. (pos t <ℤ x.count) ↔ IsBefore (negsuc s) (number_at x t) b) (same_span (Counted a b (negsuc s)) r e)
    (λ h. down_when a b s t (cut_when t _ h), λ h. cut_so t _ l (down_so a b s t h))

begins_of : (a b s : ℤ) (r : Span) (line : ℕ) → span_of a b s line ≡ Ok r → (r.from ≡ a) × (r.step ≡ s)
begins_of a b (pos zero) r line e = absurd (none e)
  where
    none : span_of a b (pos zero) line ≡ Ok r → ⊥
    none e = cc
begins_of a b (pos (suc s)) r line e =
    let k = sym (same_span (Counted a b (pos (suc s))) r e) in (ap (λ (x : Span). x.from) k, ap (λ (x : Span). x.step) k)
begins_of a b (negsuc s) r line e =
    let k = sym (same_span (Counted a b (negsuc s)) r e) in (ap (λ (x : Span). x.from) k, ap (λ (x : Span). x.step) k)

pub range_law : RangeLaw
range_law = record { begins = begins_of; counts = counts_of }
