-- The builtin functions of values (the library's "Built-in Functions").
use Rattle.std.specs.Prelude.{ℕ, ℤ, pos, unsigned_abs, List, [], ◌∷◌, length, Bool, true, false, cond, Option, Some, None, Result, Ok, Err}
use Rattle.std.specs.Ordering.{is_lt, is_gt}
use Rattle.pyd_value.specs.declared.value.Value.{Value, Int, Bool as Truth}
use Rattle.pyd_value.specs.declared.fault.Fault.{Fault}
use Rattle.pyd_value.specs.declared.fault.Kind.TheVariants.{TypeError, ValueError}
use Rattle.pyd_value.specs.declared.operator.BinOp.TheVariants.{Add}
use Rattle.pyd_value.specs.declared.operator.Builtin.{Builtin}
use Rattle.pyd_value.specs.declared.operator.Builtin.TheVariants as variant
use Rattle.pyd_value.specs.Shape.{Shape, text, shape_of, number_of}
use Rattle.pyd_value.specs.Truth.{is_true}
use Rattle.pyd_ops.specs.declared.extremes.Extreme.{Extreme}
use Rattle.pyd_ops.specs.declared.extremes.Extreme.TheVariants.{Least, Greatest}
use Rattle.pyd_ops.specs.Answer.{raise}
use Rattle.pyd_ops.specs.Integer.{integer}
use Rattle.pyd_ops.specs.Operators.{binary}
use Rattle.pyd_ops.specs.Comparing.{order_is}
use Rattle.pyd_ops.specs.Sequence.{items}

-- how many items there are
abbrev pub len : Option (List Value) → ℕ → Result Value Fault
len (Some xs) line = integer (pos (length xs)) line
len None line = raise TypeError line

-- a number without its sign
abbrev pub absolute : Option ℤ → ℕ → Result Value Fault
absolute (Some n) line = integer (pos (unsigned_abs n)) line
absolute None line = raise TypeError line

-- one of two answers, or the fault where there is no answer to the test
abbrev pub branch : Option Bool → Result Value Fault → Result Value Fault → ℕ → Result Value Fault
branch (Some b) first second line = cond b first second
branch None first second line = raise TypeError line

-- each candidate in turn takes the place of the best so far where it passes the test
abbrev pub choose_best : (Value → Value → Option Bool) → Value → List Value → ℕ → Result Value Fault
choose_best test x [] line = Ok x
choose_best test x (y ∷ ys) line =
    branch (test y x) (choose_best test y ys line) (choose_best test x ys line) line

-- a candidate takes the place of the best so far only where it is less, or greater
abbrev pub replaces : Extreme → Value → Value → Option Bool
replaces Least = order_is is_lt
replaces Greatest = order_is is_gt

-- the best of all candidates, if there are any
abbrev pub choose_item : (Value → Value → Option Bool) → Option (List Value) → ℕ
    → Result Value Fault
choose_item test (Some (x ∷ xs)) line = choose_best test x xs line
choose_item test (Some []) line = raise ValueError line
choose_item test None line = raise TypeError line

-- what one value has or what the arguments are
abbrev pub choose : (Value → Value → Option Bool) → List Value → ℕ → Result Value Fault
choose test [] line = raise TypeError line
choose test (a ∷ []) line = choose_item test (items a) line
choose test (a ∷ b ∷ args) line = choose_best test a (b ∷ args) line

-- goes on with a value, and ends at a fault
abbrev pub and_then : Result Value Fault → (Value → Result Value Fault) → Result Value Fault
and_then (Ok v) next = next v
and_then (Err f) next = Err f

-- `+` of each item from the left, the first fault being the answer
abbrev pub sum_items : Value → List Value → ℕ → Result Value Fault
sum_items total [] line = Ok total
sum_items total (x ∷ xs) line = and_then (binary Add total x line) (λ v. sum_items v xs line)

-- a sum begins with anything but a text
abbrev pub sum_in : Shape Value → Value → Option (List Value) → ℕ → Result Value Fault
sum_in (text s) start xs line = raise TypeError line
sum_in shape start (Some xs) line = sum_items start xs line
sum_in shape start None line = raise TypeError line

-- the sum of the items, if there are any, from a start
abbrev pub sum : Value → Option (List Value) → ℕ → Result Value Fault
sum start xs line = sum_in (shape_of start) start xs line

-- a builtin function of these arguments, but for those that make texts, print or range
abbrev pub builtin : Builtin → List Value → ℕ → Result Value Fault
builtin variant.Len (a ∷ []) line = len (items a) line
builtin variant.Abs (a ∷ []) line = absolute (number_of a) line
builtin variant.Min args line = choose (replaces Least) args line
builtin variant.Max args line = choose (replaces Greatest) args line
builtin variant.Sum (a ∷ []) line = sum (Int (pos 0)) (items a) line
builtin variant.Sum (a ∷ start ∷ []) line = sum start (items a) line
builtin variant.Bool [] line = Ok (Truth false)
builtin variant.Bool (a ∷ []) line = Ok (Truth (is_true a))
builtin which args line = raise TypeError line

-- those functions
abbrev pub is_of_values : Builtin → Bool
is_of_values variant.Len = true
is_of_values variant.Abs = true
is_of_values variant.Min = true
is_of_values variant.Max = true
is_of_values variant.Sum = true
is_of_values variant.Bool = true
is_of_values variant.Print = false
is_of_values variant.Str = false
is_of_values variant.Repr = false
is_of_values variant.Int = false
is_of_values variant.Range = false
