-- The items of a slice, and a text that is the middle of a cut in three.
use Rattle.std.proofs.Common.{◌≡◌, ℕ, zero, suc, ◌+◌, ◌-◌, ℤ, pos, negsuc, ◌+ℤ◌, List, [], ◌∷◌, length, take, drop, slice_get, nat_lt, Bool, true, false, cond, Option, Some, None, refl, sym, ap, ◌∙◌, arith}
use Rattle.std.specs.Prelude.{◌<ℤ◌, ◌≤ℤ◌}
use Rattle.std.proofs.lemmas.Int.{ints}
use Rattle.pyd_ops.specs.Indexing.{clamp, bound_position, items_between}
use Rattle.pyd_ops.specs.Laws.{SubstringIsAMiddle, IsBetween, SliceLaw}
use Rattle.pyd_ops.proofs.Substrings.{substring_decides}

below_none : (k : ℕ) → nat_lt k 0 ≡ false
below_none k = grind arith

above_none : (n : ℕ) → nat_lt 0 (suc n) ≡ true
above_none n = grind arith

below_next : (k n : ℕ) → nat_lt k n ≡ nat_lt (suc k) (suc n)
below_next k n = grind arith

none_either_way : {A : Type 0} (b : Bool) → ◌≡◌ {A = Option A} None (cond b None None)
none_either_way true = refl
none_either_way false = refl

-- the items of a front part, and of a rest
get_take : {A : Type 0} (xs : List A) (n k : ℕ) → slice_get (take n xs) k ≡ cond (nat_lt k n) (slice_get xs k) None
get_take xs zero k = ap (λ b. cond b (slice_get xs k) None) (sym (below_none k))
get_take [] (suc n) k = none_either_way (nat_lt k (suc n))
get_take (x ∷ xs) (suc n) zero = ap (λ b. cond b (Some x) None) (sym (above_none n))
get_take (x ∷ xs) (suc n) (suc k) = get_take xs n k ∙ ap (λ b. cond b (slice_get xs k) None) (below_next k n)

get_drop : {A : Type 0} (xs : List A) (n k : ℕ) → slice_get (drop n xs) k ≡ slice_get xs (n + k)
get_drop xs zero k = let e : k ≡ 0 + k = omega arith in ap (slice_get xs) e
get_drop [] (suc n) k = refl
get_drop (x ∷ xs) (suc n) k =
    let e : suc (n + k) ≡ suc n + k = omega arith in
    get_drop xs n k ∙ ap (slice_get (x ∷ xs)) e

same_test : (low high k : ℕ) → nat_lt k (high - low) ≡ nat_lt (low + k) high
same_test low high k = grind arith

between : {A : Type 0} (xs : List A) (low high : ℕ) → IsBetween (items_between xs low high) xs low high
between xs low high k =
    get_take (drop low xs) (high - low) k
    ∙ ap (λ b. cond b (slice_get (drop low xs) k) None) (same_test low high k)
    ∙ ap (λ x. cond (nat_lt (low + k) high) x None) (get_drop xs low k)

from_end_of : (i : ℤ) (n : ℕ) → i <ℤ pos 0 → pos 0 ≤ℤ (i +ℤ pos n) → pos (clamp i n) ≡ i +ℤ pos n
from_end_of (pos i) n h k = absurd (none i h)
  where
    none : (i : ℕ) → pos i <ℤ pos 0 → ⊥
    none i h = omega (arith, ints)
from_end_of (negsuc i) n h k = omega (arith, ints)

before_of : (i : ℤ) (n : ℕ) → (i +ℤ pos n) <ℤ pos 0 → clamp i n ≡ 0
before_of (pos i) n h = absurd (none i n h)
  where
    none : (i n : ℕ) → (pos i +ℤ pos n) <ℤ pos 0 → ⊥
    none i n h = omega (arith, ints)
before_of (negsuc i) n h = omega (arith, ints)

pub slice_law : SliceLaw
slice_law = record {
  characters = λ s low high. between s (bound_position low 0 (length s)) (bound_position high (length s) (length s));
  members = λ xs low high. between xs (bound_position low 0 (length xs)) (bound_position high (length xs) (length xs));
  inside = λ i n h. omega arith;
  past = λ i n h. omega arith;
  from_end = from_end_of;
  before = before_of;
}

pub substring_is_a_middle : SubstringIsAMiddle
substring_is_a_middle part whole = substring_decides part whole
