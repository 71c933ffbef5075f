-- What the measures of parts make together.
use Rattle.std.specs.Prelude.{ℕ, max}
use Rattle.pyd_measure.specs.declared.measures.Shape.TheVariants as shape
use Rattle.pyd_measure.specs.declared.measures.Measure.{Measure}
use Rattle.pyd_measure.specs.declared.measures.Measure.TheVariants as measure
use Rattle.pyd_measure.specs.Parts.{above, nesting_in, shape_in, greatest_in, joined, members_in, tuple_nesting, shape_of_tuple, links_in, compares_in, suffix_in, suffixes_in}

-- an expression as it is
abbrev pub alone : Measure → Measure
alone m = measure.Expr (nesting_in m) (shape_in m)

-- an expression of parts whose greatest nesting is this
abbrev pub over : ℕ → Measure
over n = measure.Expr (above n) shape.Other

-- a test, and those behind its comma
abbrev pub tests : Measure → Measure → Measure
tests first (measure.Many n ms) = measure.Many (max (nesting_in first) n) (joined (shape_in first) ms)
tests first m = alone first

-- the expressions behind a comma
abbrev pub comma : Measure → Measure
comma m = measure.Many (greatest_in m) (members_in m)

-- an expression, with its condition where it has one
abbrev pub test : Measure → Measure → Measure
test first (measure.Condition n) = over (max (nesting_in first) n)
test first m = alone first

-- a condition and the other side
abbrev pub condition : Measure → Measure → Measure
condition test other = measure.Condition (max (nesting_in test) (nesting_in other))

-- one operand, or several joined by one word
abbrev pub junction : Measure → Measure → Measure
junction first (measure.Many n ms) = over (max (nesting_in first) n)
junction first m = alone first

-- an operand behind its word, and those behind it
abbrev pub member : Measure → Measure → Measure
member operand rest =
    measure.Many (max (nesting_in operand) (greatest_in rest)) (joined (shape_in operand) (members_in rest))

-- an operand behind its sign or `not`
abbrev pub unary : Measure → Measure
unary operand = over (nesting_in operand)

-- one operand, or a comparison
abbrev pub compare : Measure → Measure → Measure
compare first (measure.Compares n) = over (max (nesting_in first) n)
compare first m = alone first

-- an operand behind its comparison, and those behind it
abbrev pub compared : Measure → Measure → Measure
compared operand rest = measure.Compares (max (nesting_in operand) (compares_in rest))

-- an operand and the operators of one level behind it
abbrev pub chain : Measure → Measure → Measure
chain first (measure.Links n) = over (max (nesting_in first) n)
chain first m = alone first

-- an operand behind its operator, and those behind it
abbrev pub link : Measure → Measure → Measure
link operand rest = measure.Links (max (nesting_in operand) (links_in rest))

-- a base, with its exponent where it has one
abbrev pub power : Measure → Measure → Measure
power base (measure.Expr n s) = over (max (nesting_in base) n)
power base m = alone base

-- an atom, with its suffixes where it has some
abbrev pub suffixed : Measure → Measure → Measure
suffixed base (measure.Suffixes n) = over (max (nesting_in base) n)
suffixed base m = alone base

-- an index or a slice, and those behind it
abbrev pub suffix : Measure → Measure → Measure
suffix sub rest = measure.Suffixes (max (suffix_in sub) (suffixes_in rest))

-- an index, or a slice with a lower bound
abbrev pub sub : Measure → Measure → Measure
sub test (measure.Bound n) = measure.Suffix (max (nesting_in test) n)
sub test m = measure.Suffix (nesting_in test)

-- a slice without a lower bound
abbrev pub upper : Measure → Measure
upper test = measure.Suffix (nesting_in test)

-- the upper bound of a slice, or none
abbrev pub bound : Measure → Measure
bound test = measure.Bound (nesting_in test)

-- a name, or a call where there are arguments
abbrev pub name : Measure → Measure
name (measure.Args n) = over n
name m = measure.Expr 0 shape.Name

-- a literal
abbrev pub literal : Measure
literal = measure.Expr 0 shape.Other

-- what stands in parentheses
abbrev pub group : Measure → Measure
group m = measure.Expr (tuple_nesting m) (shape_of_tuple m)

-- the arguments of a call
abbrev pub arguments : Measure → Measure
arguments m = measure.Args (greatest_in m)

-- the right side of an assignment
abbrev pub assign : Measure → Measure
assign right = measure.Assign (tuple_nesting right)

-- the right side of an augmented assignment
abbrev pub augment : Measure → Measure
augment right = measure.Augment (tuple_nesting right)
