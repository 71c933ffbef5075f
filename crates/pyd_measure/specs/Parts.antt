-- What is taken from the measure of a part. Each of these takes any measure, as what is taken from a piece does.
use Rattle.std.specs.Prelude.{ℕ, suc, Bool, true, false}
use Rattle.pyd_measure.specs.declared.measures.Shape.{Shape}
use Rattle.pyd_measure.specs.declared.measures.Shape.TheVariants as shape
use Rattle.pyd_measure.specs.declared.measures.Members.{Members}
use Rattle.pyd_measure.specs.declared.measures.Members.TheVariants as members
use Rattle.pyd_measure.specs.declared.measures.Measure.{Measure}
use Rattle.pyd_measure.specs.declared.measures.Measure.TheVariants as measure
use Rattle.pyd_measure.specs.Measures.{cut}

-- one above a nesting
abbrev pub above : ℕ → ℕ
above n = cut (suc n)

-- the nesting of the expression that a part is
abbrev pub nesting_in : Measure → ℕ
nesting_in (measure.Expr n s) = n
nesting_in m = 0

-- the shape of the expression that a part is
abbrev pub shape_in : Measure → Shape
shape_in (measure.Expr n s) = s
shape_in m = shape.Other

-- the greatest nesting of the expressions that commas or one operator divide
abbrev pub greatest_in : Measure → ℕ
greatest_in (measure.Expr n s) = n
greatest_in (measure.Many n ms) = n
greatest_in m = 0

-- members before which one of this shape stands
abbrev pub joined : Shape → Members → Members
joined shape.Name members.None = members.Names
joined shape.Name members.Names = members.Names
joined shape.Name members.Other = members.Other
joined shape.Names ms = members.Other
joined shape.Other ms = members.Other

-- the members that commas or one operator divide
abbrev pub members_in : Measure → Members
members_in (measure.Expr n s) = joined s members.None
members_in (measure.Many n ms) = ms
members_in m = members.None

-- the shape of a tuple of these members
abbrev pub tuple_shape : Members → Shape
tuple_shape members.None = shape.Other
tuple_shape members.Names = shape.Names
tuple_shape members.Other = shape.Other

-- the nesting of one expression without a comma, else of a tuple
abbrev pub tuple_nesting : Measure → ℕ
tuple_nesting (measure.Expr n s) = n
tuple_nesting (measure.Many n ms) = above n
tuple_nesting measure.Nothing = 1
tuple_nesting m = 0

-- the shape of one expression without a comma, else of a tuple
abbrev pub shape_of_tuple : Measure → Shape
shape_of_tuple (measure.Expr n s) = s
shape_of_tuple (measure.Many n ms) = tuple_shape ms
shape_of_tuple measure.Nothing = shape.Other
shape_of_tuple m = shape.Other

-- the greatest nesting of the operands behind operators
abbrev pub links_in : Measure → ℕ
links_in (measure.Links n) = n
links_in m = 0

-- the greatest nesting of the operands behind comparisons
abbrev pub compares_in : Measure → ℕ
compares_in (measure.Compares n) = n
compares_in m = 0

-- the nesting of an index or a slice
abbrev pub suffix_in : Measure → ℕ
suffix_in (measure.Suffix n) = n
suffix_in m = 0

-- the greatest nesting of indexes and slices
abbrev pub suffixes_in : Measure → ℕ
suffixes_in (measure.Suffixes n) = n
suffixes_in m = 0

-- the nesting of a part of a statement or header, 0 where it is missing
abbrev pub counted : Measure → ℕ
counted (measure.Expr n s) = n
counted (measure.Many n ms) = above n
counted (measure.Assign n) = n
counted (measure.Augment n) = n
counted m = 0

-- whether a shape is a name, or one or more names
abbrev pub is_target : Shape → Bool
is_target shape.Name = true
is_target shape.Names = true
is_target shape.Other = false

-- whether a shape is a name
abbrev pub is_name : Shape → Bool
is_name shape.Name = true
is_name shape.Names = false
is_name shape.Other = false

-- whether a left side fits what stands behind it
abbrev pub fits_in : Measure → Measure → Bool
fits_in left (measure.Assign n) = is_target (shape_of_tuple left)
fits_in left (measure.Augment n) = is_name (shape_of_tuple left)
fits_in left m = true
