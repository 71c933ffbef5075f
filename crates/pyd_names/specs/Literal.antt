-- Literals, the right sides that make a constant.
use Rattle.std.specs.Prelude.{ℕ, pos, negsuc, ◌-ℤ◌, List, [], ◌∷◌, map, Option, Some, None}
use Rattle.pyd_value.specs.declared.value.Value.{Value, out-Value, Int, Tuple}
use Rattle.pyd_value.specs.declared.value.Value.TheOpen.{Value-F}
use Rattle.pyd_value.specs.declared.operator.UnOp.{UnOp}
use Rattle.pyd_value.specs.declared.operator.UnOp.TheVariants.{Neg, Pos, Not}
use Rattle.pyd_tree.specs.declared.expression.Expr.{Expr, fold-Expr}
use Rattle.pyd_tree.specs.declared.expression.Expr.TheOpen.{Expr-F, Suffix-F}

-- what an expression is as a literal: an INT, another literal, or none
pub data Form : Type 0 where
  number : ℕ → Form
  other : Value → Form
  none : Form

-- the value of a literal
abbrev pub value_in : Form → Option Value
value_in (number n) = Some (Int (pos n))
value_in (other v) = Some v
value_in none = None

-- a literal of one token, which is an INT where it is a number that isn't negative
abbrev pub token_form : Value → Value-F Value → Form
token_form v (Value-F.Int (pos n)) = number n
token_form v (Value-F.Int (negsuc n)) = other v
token_form v (Value-F.Bool b) = other v
token_form v (Value-F.Text s) = other v
token_form v (Value-F.Tuple members) = other v
token_form v Value-F.None = other v

-- `-` before an INT
abbrev pub negated : Form → Form
negated (number n) = other (Int (pos 0 -ℤ pos n))
negated (other v) = none
negated none = none

-- an operator before an operand
abbrev pub unary_form : UnOp → Form → Form
unary_form Neg operand = negated operand
unary_form Pos operand = none
unary_form Not operand = none

-- a value before others, if all are there
abbrev pub before : Option Value → Option (List Value) → Option (List Value)
before (Some v) (Some vs) = Some (v ∷ vs)
before (Some v) None = None
before None vs = None

-- the values of literals, if all are literals
abbrev pub values_in : List Form → Option (List Value)
values_in [] = Some []
values_in (f ∷ fs) = before (value_in f) (values_in fs)

-- the tuple of values that are all there
abbrev pub tuple_of : Option (List Value) → Option Value
tuple_of (Some vs) = Some (Tuple vs)
tuple_of None = None

-- a tuple of values, if all are there
abbrev pub tuple_form : Option (List Value) → Form
tuple_form (Some vs) = other (Tuple vs)
tuple_form None = none

-- one level, each part being given by what it is as a literal
abbrev pub form_step : Expr-F Form Form → Form
form_step (Expr-F.Lit v) = token_form v (out-Value v)
form_step (Expr-F.Name name) = none
form_step (Expr-F.Tuple members) = tuple_form (values_in members)
form_step (Expr-F.Unary op operand) = unary_form op operand
form_step (Expr-F.Chain first links) = none
form_step (Expr-F.Power base exponent) = none
form_step (Expr-F.And operands) = none
form_step (Expr-F.Or operands) = none
form_step (Expr-F.Compare first links) = none
form_step (Expr-F.If test left right) = none
form_step (Expr-F.Call name arguments) = none
form_step (Expr-F.Suffixed base suffixes) = none

-- a suffix is no literal
abbrev pub suffix_form : Suffix-F Form Form → Form
suffix_form (Suffix-F.Index index) = none
suffix_form (Suffix-F.Slice lower upper) = none

-- what an expression is as a literal
abbrev pub form_of : Expr → Form
form_of = fold-Expr Form Form form_step suffix_form

-- the value of an expression that is a literal: INT, `-` before INT, STR, True, False, None, or a tuple of literals
abbrev pub literal : Expr → Option Value
literal e = value_in (form_of e)

-- the tuple of expressions that are all literals
abbrev pub literal_tuple : List Expr → Option Value
literal_tuple es = tuple_of (values_in (map form_of es))
