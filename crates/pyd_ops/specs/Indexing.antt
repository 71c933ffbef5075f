-- Indexing and slicing (Python Language Reference, 6.3.2 and 6.3.3).
use Rattle.std.specs.Prelude.{ℕ, suc, ◌-◌, min, nat_lt, ℤ, pos, negsuc, List, length, take, drop, slice_get, cond, Option, Some, None, Result, Ok}
use Rattle.pyd_value.specs.declared.value.Value.{Value, Text, Tuple}
use Rattle.pyd_value.specs.declared.fault.Fault.{Fault}
use Rattle.pyd_value.specs.declared.fault.Kind.TheVariants.{TypeError, IndexError}
use Rattle.pyd_value.specs.Shape.{Shape, number, text, tuple, nothing, shape_of, number_of}
use Rattle.pyd_ops.specs.declared.indexing.Bounds.{Bounds}
use Rattle.pyd_ops.specs.Answer.{raise}
use Rattle.pyd_ops.specs.Sequence.{character}

-- where an index points in so many items, a negative one being counted from the end
abbrev pub place : ℤ → ℕ → Option ℕ
place (pos i) n = cond (nat_lt i n) (Some i) None
place (negsuc i) n = cond (nat_lt i n) (Some (n - suc i)) None

-- the item at a place
abbrev pub at_place : {A : Type 0} → List A → Option ℕ → Option A
at_place xs (Some i) = slice_get xs i
at_place xs None = None

-- the item at an index
abbrev pub item : {A : Type 0} → List A → ℤ → Option A
item xs i = at_place xs (place i (length xs))

-- a value, or the fault where there is none
abbrev pub item_or_error : {A : Type 0} → (A → Value) → Option A → ℕ → Result Value Fault
item_or_error value (Some x) line = Ok (value x)
item_or_error value None line = raise IndexError line

-- an item of a text or tuple, by a number
abbrev pub index_in : Shape Value → Option ℤ → ℕ → Result Value Fault
index_in (text s) (Some i) line = item_or_error character (item s i) line
index_in (tuple xs) (Some i) line = item_or_error (λ x. x) (item xs i) line
index_in a i line = raise TypeError line

-- `a[i]`
abbrev pub index : Value → Value → ℕ → Result Value Fault
index a i line = index_in (shape_of a) (number_of i) line

-- where a bound cuts so many items: counted from the end where negative, and never outside
abbrev pub clamp : ℤ → ℕ → ℕ
clamp (pos i) n = min i n
clamp (negsuc i) n = n - suc i

-- where a bound that may be absent cuts
abbrev pub bound_position : Option ℤ → ℕ → ℕ → ℕ
bound_position (Some i) absent n = clamp i n
bound_position None absent n = absent

-- the items from one place to another
abbrev pub items_between : {A : Type 0} → List A → ℕ → ℕ → List A
items_between xs low high = take (high - low) (drop low xs)

-- the items between two bounds
abbrev pub slice_items : {A : Type 0} → List A → Option ℤ → Option ℤ → List A
slice_items xs low high =
    let n = length xs in items_between xs (bound_position low 0 n) (bound_position high n n)

-- a bound is a number or `None`, which is as good as absent; anything else is no bound
abbrev pub bound_in : Shape Value → Option (Option ℤ)
bound_in (number n) = Some (Some n)
bound_in nothing = Some None
bound_in a = None

-- a bound of a slice: a number, none, or of no kind that a bound has
abbrev pub bound : Option Value → Option (Option ℤ)
bound None = Some None
bound (Some v) = bound_in (shape_of v)

-- a part of a text or tuple
abbrev pub slice_in : Shape Value → Option (Option ℤ) → Option (Option ℤ) → ℕ → Result Value Fault
slice_in (text s) (Some low) (Some high) line = Ok (Text (slice_items s low high))
slice_in (tuple xs) (Some low) (Some high) line = Ok (Tuple (slice_items xs low high))
slice_in a low high line = raise TypeError line

-- `a[low:high]`
abbrev pub slice : Value → Bounds → ℕ → Result Value Fault
slice a by line = slice_in (shape_of a) (bound by.low) (bound by.high) line
