-- From bounds within the limits a range and all its numbers are within them.
use Rattle.std.proofs.Common.{◌≡◌, ℕ, zero, suc, nat_lt, min, ℤ, pos, negsuc, ◌+ℤ◌, ◌*ℤ◌, List, [], ◌∷◌, map, true, Option, Some, None, Result, Ok, refl, subst, arith}
use Rattle.std.specs.Prelude.{◌<ℤ◌, ◌≤ℤ◌}
use Rattle.std.proofs.lemmas.Int.{ints}
use Rattle.std.proofs.Math.IntN.{pos-*ℤ-negsuc}
use Rattle.pyd_value.specs.declared.value.Value.{Value}
use Rattle.pyd_value.specs.declared.fault.Fault.{Fault}
use Rattle.pyd_value.specs.Shape.{Shape, number, text, tuple, nothing, number_in, number_of, shape_of}
use Rattle.pyd_value.specs.Limits.{integer_bound, greatest_integer}
use Rattle.pyd_ops.specs.declared.ranges.Span.{Span}
use Rattle.pyd_ops.specs.Integer.{is_within}
use Rattle.pyd_ops.specs.Ranges.{span_of, range_of_numbers, range_of, count}
use Rattle.pyd_ops.specs.Limited.{EachLimited, LimitedSpan}
use Rattle.pyd_ops.proofs.Limits.{below, below_when}
use Rattle.pyd_ops.proofs.Counting.{Counted, same_span, up_when, down_when, cut_when}
use Rattle.pyd_ops.proofs.Parts.{Inside, inside}

-- a number between two that are within
below_high : (n : ℕ) (high : ℤ) → is_within high ≡ true → pos n ≤ℤ high → nat_lt n integer_bound ≡ true
below_high n (pos m) e h = let k = below_when m integer_bound e in below n integer_bound (omega (arith, ints))
below_high n (negsuc m) e h = absurd (none n m h)
  where
    none : (n m : ℕ) → pos n ≤ℤ negsuc m → ⊥
    none n m h = omega (arith, ints)

above_low : (n : ℕ) (low : ℤ) → is_within low ≡ true → low ≤ℤ negsuc n → nat_lt n integer_bound ≡ true
above_low n (negsuc m) e h = let k = below_when m integer_bound e in below n integer_bound (omega (arith, ints))
above_low n (pos m) e h = absurd (none n m h)
  where
    none : (n m : ℕ) → pos m ≤ℤ negsuc n → ⊥
    none n m h = omega (arith, ints)

within_between : (low x high : ℤ) → is_within low ≡ true → is_within high ≡ true → low ≤ℤ x → x ≤ℤ high → is_within x ≡ true
within_between low (pos n) high e f h k = below_high n high f k
within_between low (negsuc n) high e f h k = above_low n low e h

cut_within : (n : ℕ) → nat_lt (min n greatest_integer) integer_bound ≡ true
cut_within n = below (min n greatest_integer) integer_bound (omega arith)

up_from : (a : ℤ) (s t : ℕ) → a ≤ℤ (a +ℤ (pos t *ℤ pos (suc s)))
up_from a s t = omega (arith, ints)

down_from : (a : ℤ) (s t : ℕ) → (a +ℤ (pos t *ℤ negsuc s)) ≤ℤ a
down_from a s t = let e = pos-*ℤ-negsuc t s in omega (arith, ints)

at_most : (x y : ℤ) → x <ℤ y → x ≤ℤ y
at_most x y h = omega (arith, ints)

span_limited : (a b s : ℤ) (span : Span) (line : ℕ) → is_within a ≡ true → is_within b ≡ true → is_within s ≡ true
    → span_of a b s line ≡ Ok span → LimitedSpan span
span_limited a b (pos zero) span line e f g h = absurd (none h)
  where
    none : span_of a b (pos zero) line ≡ Ok span → ⊥
    none h = cc
span_limited a b (pos (suc s)) span line e f g h =
    subst LimitedSpan (same_span (Counted a b (pos (suc s))) span h) (record {
      from = e;
      step = g;
      count = cut_within (count a b (pos (suc s)));
      numbers = λ t k. within_between a _ b e f (up_from a s t) (at_most _ b (up_when a b s t (cut_when t _ k)));
    })
span_limited a b (negsuc s) span line e f g h =
    subst LimitedSpan (same_span (Counted a b (negsuc s)) span h) (record {
      from = e;
      step = g;
      count = cut_within (count a b (negsuc s));
      numbers = λ t k. within_between b _ a f e (at_most b _ (down_when a b s t (cut_when t _ k))) (down_from a s t);
    })

-- the numbers of arguments
abbrev Within : Option ℤ → Type 0
Within (Some n) = is_within n ≡ true
Within None = Unit

abbrev EachWithin : List (Option ℤ) → Type 0
EachWithin [] = Unit
EachWithin (o ∷ os) = Within o × EachWithin os

shape_within : (x : Shape Value) → Inside x → Within (number_in x)
shape_within (number n) h = h
shape_within (text s) h = tt
shape_within (tuple xs) h = tt
shape_within nothing h = tt

each_within : (args : List Value) → EachLimited args → EachWithin (map number_of args)
each_within [] h = tt
each_within (a ∷ args) h = (shape_within (shape_of a) (inside a h.0), each_within args h.1)

abbrev Spans : Result Span Fault → Span → Type 0
Spans r span = ◌≡◌ {A = Result Span Fault} r (Ok span)

numbers_limited : (os : List (Option ℤ)) (span : Span) (line : ℕ) → EachWithin os → Spans (range_of_numbers os line) span → LimitedSpan span
numbers_limited [] span line h e = absurd (let k : ⊥ = cc in k)
numbers_limited (None ∷ os) span line h e = absurd (let k : ⊥ = cc in k)
numbers_limited (Some b ∷ []) span line h e = span_limited (pos 0) b (pos 1) span line refl h.0 refl e
numbers_limited (Some a ∷ None ∷ os) span line h e = absurd (let k : ⊥ = cc in k)
numbers_limited (Some a ∷ Some b ∷ []) span line h e = span_limited a b (pos 1) span line h.0 h.1.0 refl e
numbers_limited (Some a ∷ Some b ∷ None ∷ os) span line h e = absurd (let k : ⊥ = cc in k)
numbers_limited (Some a ∷ Some b ∷ Some s ∷ []) span line h e = span_limited a b s span line h.0 h.1.0 h.1.1.0 e
numbers_limited (Some a ∷ Some b ∷ Some s ∷ o ∷ os) span line h e = absurd (let k : ⊥ = cc in k)

pub range_limited : (args : List Value) (span : Span) (line : ℕ) → EachLimited args → Spans (range_of args line) span → LimitedSpan span
range_limited args span line h e = numbers_limited (map number_of args) span line (each_within args h) e
