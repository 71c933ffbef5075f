-- Comparisons and membership (Python Language Reference, 6.10).
use Rattle.std.specs.Prelude.{ℕ, List, [], ◌∷◌, nat_eq, Bool, true, false, not, ◌&&◌, ◌||◌, Option, Some, option_map, Result, Ok}
use Rattle.std.specs.List.{list_any}
use Rattle.std.specs.Ordering.{is_lt, is_le, is_gt, is_ge}
use Rattle.std.specs.declared.cmp.Ordering.{Ordering}
use Rattle.pyd_value.specs.declared.value.Value.{Value, Bool as Truth}
use Rattle.pyd_value.specs.declared.fault.Fault.{Fault}
use Rattle.pyd_value.specs.declared.fault.Kind.TheVariants.{TypeError}
use Rattle.pyd_value.specs.declared.operator.CmpOp.{CmpOp}
use Rattle.pyd_value.specs.declared.operator.CmpOp.TheVariants.{Eq, Ne, Lt, Le, Gt, Ge, In, NotIn}
use Rattle.pyd_value.specs.Shape.{Shape, text, tuple, shape_of}
use Rattle.pyd_value.specs.Comparison.{comparison_of}
use Rattle.pyd_value.specs.Equality.{is_equal}
use Rattle.pyd_value.specs.Order.{ordered}
use Rattle.pyd_ops.specs.Answer.{raise}

-- a truth value, or the fault where there is no answer
abbrev pub truth_value : Option Bool → ℕ → Result Value Fault
truth_value (Some b) line = Ok (Truth b)
truth_value Option.None line = raise TypeError line

-- a test of how a compares with b, where the two have an order
abbrev pub order_is : (Ordering → Bool) → Value → Value → Option Bool
order_is test a b = ordered (shape_of a) (option_map test (comparison_of a b))

-- whether a text begins with another
abbrev pub is_prefix : List ℕ → List ℕ → Bool
is_prefix [] t = true
is_prefix (c ∷ s) [] = false
is_prefix (c ∷ s) (d ∷ t) = nat_eq c d && is_prefix s t

-- whether a text is part of another, at its beginning or later
abbrev pub is_substring : List ℕ → List ℕ → Bool
is_substring s [] = is_prefix s []
is_substring s (d ∷ t) = is_prefix s (d ∷ t) || is_substring s t

-- whether a member equals a, or a text is a substring of the other
abbrev pub membership : Value → Shape Value → Shape Value → Option Bool
membership a x (tuple members) = Some (list_any (is_equal a) members)
membership a (text s) (text t) = Some (is_substring s t)
membership a x w = Option.None

-- `a in b`
abbrev pub contains : Value → Value → ℕ → Result Value Fault
contains a b line = truth_value (membership a (shape_of a) (shape_of b)) line

-- a comparison
abbrev pub compare : CmpOp → Value → Value → ℕ → Result Value Fault
compare Eq a b line = Ok (Truth (is_equal a b))
compare Ne a b line = Ok (Truth (not (is_equal a b)))
compare Lt a b line = truth_value (order_is is_lt a b) line
compare Le a b line = truth_value (order_is is_le a b) line
compare Gt a b line = truth_value (order_is is_gt a b) line
compare Ge a b line = truth_value (order_is is_ge a b) line
compare In a b line = contains a b line
compare NotIn a b line = truth_value (option_map not (membership a (shape_of a) (shape_of b))) line
