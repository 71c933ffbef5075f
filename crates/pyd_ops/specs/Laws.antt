-- Laws of operations, above their formulas.
use Rattle.std.specs.Prelude.{◌≡◌, ◌≢◌, ◌↔◌, ℕ, ◌+◌, ◌≤◌, ◌<◌, ℤ, pos, negsuc, ◌+ℤ◌, ◌*ℤ◌, ◌<ℤ◌, ◌≤ℤ◌, List, length, slice_get, nat_lt, cond, Option, None, Ok, IsTrue}
use Rattle.std.specs.Str.Iter.{HasSubslice}
use Rattle.pyd_value.specs.declared.value.Value.{Value}
use Rattle.pyd_value.specs.declared.operator.BinOp.{BinOp}
use Rattle.pyd_value.specs.declared.operator.UnOp.{UnOp}
use Rattle.pyd_value.specs.declared.operator.CmpOp.{CmpOp}
use Rattle.pyd_value.specs.declared.operator.Builtin.{Builtin}
use Rattle.pyd_value.specs.Limits.{greatest_integer}
use Rattle.pyd_ops.specs.declared.indexing.Bounds.{Bounds}
use Rattle.pyd_ops.specs.declared.ranges.Span.{Span}
use Rattle.pyd_ops.specs.Arithmetic.{floor_div, floor_rem}
use Rattle.pyd_ops.specs.Operators.{unary, binary}
use Rattle.pyd_ops.specs.Comparing.{compare, contains, is_substring}
use Rattle.pyd_ops.specs.Indexing.{clamp, bound_position, slice_items, index, slice}
use Rattle.pyd_ops.specs.Calls.{builtin}
use Rattle.pyd_ops.specs.Ranges.{span_of, number_at, range_of}
use Rattle.pyd_ops.specs.Limited.{Limited, EachLimited, LimitedSpan}

-- from operands within the limits every operation gives values within them
pub record OperationsKeepLimits : Type 0 where
  pub unary : (op : UnOp) (a v : Value) (line : ℕ) → Limited a → unary op a line ≡ Ok v → Limited v
  pub binary : (op : BinOp) (a b v : Value) (line : ℕ)
      → Limited a → Limited b → binary op a b line ≡ Ok v → Limited v
  pub compare : (op : CmpOp) (a b v : Value) (line : ℕ) → compare op a b line ≡ Ok v → Limited v
  pub contains : (a b v : Value) (line : ℕ) → contains a b line ≡ Ok v → Limited v
  pub index : (a i v : Value) (line : ℕ) → Limited a → index a i line ≡ Ok v → Limited v
  pub slice : (a v : Value) (by : Bounds) (line : ℕ)
      → Limited a → slice a by line ≡ Ok v → Limited v
  pub builtin : (which : Builtin) (args : List Value) (v : Value) (line : ℕ)
      → EachLimited args → builtin which args line ≡ Ok v → Limited v
  pub range_of : (args : List Value) (span : Span) (line : ℕ)
      → EachLimited args → range_of args line ≡ Ok span → LimitedSpan span

-- a number comes before the end: below it where the step goes up, above it where the step goes down
abbrev pub IsBefore : ℤ → ℤ → ℤ → Type 0
IsBefore (pos step) number end = number <ℤ end
IsBefore (negsuc step) number end = end <ℤ number

-- a range has its bounds, and counts exactly the numbers before its end, as far as a count reaches
pub record RangeLaw : Type 0 where
  pub begins : (from end step : ℤ) (span : Span) (line : ℕ)
      → span_of from end step line ≡ Ok span → (span.from ≡ from) × (span.step ≡ step)
  pub counts : (from end step : ℤ) (span : Span) (t line : ℕ)
      → span_of from end step line ≡ Ok span → t < greatest_integer
      → (pos t <ℤ span.count) ↔ IsBefore step (number_at span t) end

-- quotient and remainder go together, and the remainder lies from 0 to below the divisor
pub record DivisionLaw : Type 0 where
  pub sum : (a b : ℤ) → b ≢ pos 0 → a ≡ (b *ℤ floor_div a b) +ℤ floor_rem a b
  pub positive : (a b : ℤ) → pos 0 <ℤ b → (pos 0 ≤ℤ floor_rem a b) × (floor_rem a b <ℤ b)
  pub negative : (a b : ℤ) → b <ℤ pos 0 → (b <ℤ floor_rem a b) × (floor_rem a b ≤ℤ pos 0)

-- a text stands within another exactly where it is the middle of a cut in three
abbrev pub SubstringIsAMiddle : Type 0
SubstringIsAMiddle =
    (part whole : List ℕ) → IsTrue (is_substring part whole) ↔ HasSubslice whole part

-- item k between two positions is item low + k of the whole, as far as high
abbrev pub IsBetween : {A : Type 0} → List A → List A → ℕ → ℕ → Type 0
IsBetween part whole low high =
    (k : ℕ) → slice_get part k ≡ cond (nat_lt (low + k) high) (slice_get whole (low + k)) None

-- the items of a slice are those between the positions of its bounds
abbrev pub IsSliceOf : {A : Type 0} → List A → List A → Option ℤ → Option ℤ → Type 0
IsSliceOf part whole low high =
    let n = length whole in IsBetween part whole (bound_position low 0 n) (bound_position high n n)

-- which items a slice has, and the position of a bound among n items
pub record SliceLaw : Type 0 where
  pub characters : (s : List ℕ) (low high : Option ℤ)
      → IsSliceOf (slice_items s low high) s low high
  pub members : (xs : List Value) (low high : Option ℤ)
      → IsSliceOf (slice_items xs low high) xs low high
  pub inside : (i n : ℕ) → i ≤ n → clamp (pos i) n ≡ i
  pub past : (i n : ℕ) → n ≤ i → clamp (pos i) n ≡ n
  pub from_end : (i : ℤ) (n : ℕ) → i <ℤ pos 0 → pos 0 ≤ℤ (i +ℤ pos n) → pos (clamp i n) ≡ i +ℤ pos n
  pub before : (i : ℤ) (n : ℕ) → (i +ℤ pos n) <ℤ pos 0 → clamp i n ≡ 0
