-- What each form of expression does, one law each, in the order of the grammar from the whole to its atoms.
use Rattle.std.specs.Prelude.{◌≡◌, ℕ, ℤ, ◌+ℤ◌, List, ◌∷◌, map, Option, option_map}
use Rattle.pyd_value.specs.declared.value.Value.{Value, Int}
use Rattle.pyd_value.specs.declared.fault.Kind.TheVariants.{NameError}
use Rattle.pyd_value.specs.declared.operator.BinOp.{BinOp}
use Rattle.pyd_value.specs.declared.operator.BinOp.TheVariants.{Add, Pow}
use Rattle.pyd_value.specs.declared.operator.CmpOp.{CmpOp}
use Rattle.pyd_value.specs.declared.operator.UnOp.{UnOp}
use Rattle.pyd_value.specs.Truth.{is_true}
use Rattle.pyd_tree.specs.declared.expression.Expr.{Expr}
use Rattle.pyd_tree.specs.declared.expression.Expr.TheVariants as expression
use Rattle.pyd_tree.specs.declared.expression.Suffix.{Suffix}
use Rattle.pyd_tree.specs.declared.expression.Suffix.TheVariants as suffix
use Rattle.pyd_names.specs.Resolution as resolution
use Rattle.pyd_ops.specs.Integer.{integer}
use Rattle.pyd_ops.specs.Operators.{unary, binary}
use Rattle.pyd_ops.specs.Indexing.{index, slice}
use Rattle.pyd_ops.specs.Joining.{tuple_if_fits}
use Rattle.pyd_meaning.specs.Evaluation.{settled, gives, step, ◌>>=◌}
use Rattle.pyd_meaning.specs.Names.{Names}
use Rattle.pyd_meaning.specs.Setting.{Place, Setting, raises}
use Rattle.pyd_meaning.specs.Reference.{read, callee}
use Rattle.pyd_meaning.specs.Calls.{called}
use Rattle.pyd_meaning.specs.Expression.{Meaning, meaning_of, suffix_of, branch, each, optional, chained, conjunction, disjunction, compared, suffixed}

-- a conditional expression is its test, and then one of its sides
abbrev pub ConditionalLaw : Type 0
ConditionalLaw = (setting : Setting) (test first second : Expr) (at : Place) (names : Names)
    → meaning_of setting (expression.If test first second) at names
    ≡ step (meaning_of setting test at names
    >>= (λ v. branch (is_true v) (meaning_of setting first at) (meaning_of setting second at) names))

-- an `or` is its members up to the first that is true
abbrev pub OrLaw : Type 0
OrLaw = (setting : Setting) (es : List Expr) (at : Place) (names : Names)
    → meaning_of setting (expression.Or es) at names
    ≡ step (disjunction (map (meaning_of setting) es) at names)

-- an `and` is its members up to the first that is false
abbrev pub AndLaw : Type 0
AndLaw = (setting : Setting) (es : List Expr) (at : Place) (names : Names)
    → meaning_of setting (expression.And es) at names
    ≡ step (conjunction (map (meaning_of setting) es) at names)

-- a comparison is its first operand, and then its links up to the first that is false
abbrev pub ComparisonLaw : Type 0
ComparisonLaw = (setting : Setting) (first : Expr) (links : List (CmpOp × Expr)) (at : Place) (names : Names)
    → meaning_of setting (expression.Compare first links) at names
    ≡ step (meaning_of setting first at names
    >>= (λ a. compared a (map (λ l. (l.0, meaning_of setting l.1)) links) at names))

-- a chain is its first operand, and then its operators from the left
abbrev pub ChainLaw : Type 0
ChainLaw = (setting : Setting) (first : Expr) (links : List (BinOp × Expr)) (at : Place) (names : Names)
    → meaning_of setting (expression.Chain first links) at names
    ≡ step (meaning_of setting first at names
    >>= (λ a. chained a (map (λ l. (l.0, meaning_of setting l.1)) links) at names))

-- each `+` of integers in turn: the exact sum, and then its limit
abbrev pub SumLaw : Type 0
SumLaw = (a b : ℤ) (e : Meaning) (links : List (BinOp × Meaning)) (at : Place) (names : Names)
    → e at names ≡ step (gives (Int b))
    → chained (Int a) ((Add, e) ∷ links) at names
    ≡ step (settled (integer (a +ℤ b) at.line) >>= (λ c. chained c links at names))

-- an operator before an operand is the operand, and then the operator
abbrev pub UnaryLaw : Type 0
UnaryLaw = (setting : Setting) (op : UnOp) (e : Expr) (at : Place) (names : Names)
    → meaning_of setting (expression.Unary op e) at names
    ≡ step (meaning_of setting e at names >>= (λ v. settled (unary op v at.line)))

-- a power is its base, its exponent, and then the power
abbrev pub PowerLaw : Type 0
PowerLaw = (setting : Setting) (base exponent : Expr) (at : Place) (names : Names)
    → meaning_of setting (expression.Power base exponent) at names
    ≡ step (meaning_of setting base at names
    >>= (λ a. meaning_of setting exponent at names >>= (λ b. settled (binary Pow a b at.line))))

-- an expression with brackets behind it is the expression, and then the brackets from the left
abbrev pub SuffixedLaw : Type 0
SuffixedLaw = (setting : Setting) (base : Expr) (ss : List Suffix) (at : Place) (names : Names)
    → meaning_of setting (expression.Suffixed base ss) at names
    ≡ step (meaning_of setting base at names
    >>= (λ a. suffixed a (map (suffix_of setting) ss) at names))

-- an index behind a value is evaluated, and then the item is taken
abbrev pub IndexLaw : Type 0
IndexLaw = (setting : Setting) (e : Expr) (a : Value) (at : Place) (names : Names)
    → suffix_of setting (suffix.Index e) a at names
    ≡ step (meaning_of setting e at names >>= (λ i. settled (index a i at.line)))

-- of a slice the lower bound is evaluated, then the upper, and then the part is taken
abbrev pub SliceLaw : Type 0
SliceLaw = (setting : Setting) (low high : Option Expr) (a : Value) (at : Place) (names : Names)
    → suffix_of setting (suffix.Slice low high) a at names
    ≡ step (optional (option_map (meaning_of setting) low) at names
    >>= (λ l. optional (option_map (meaning_of setting) high) at names
    >>= (λ h. settled (slice a (record { low = l; high = h }) at.line))))

-- a name is read
abbrev pub NameLaw : Type 0
NameLaw = (setting : Setting) (name : List ℕ) (at : Place) (names : Names)
    → meaning_of setting (expression.Name name) at names ≡ step (read setting name at names)

-- a call is its callee's name, its arguments from the left, and then what it does with their values
abbrev pub CallLaw : Type 0
CallLaw = (setting : Setting) (name : List ℕ) (args : List Expr) (at : Place) (names : Names)
    → meaning_of setting (expression.Call name args) at names
    ≡ step (callee setting name at names
    >>= (λ f. each (map (meaning_of setting) args) at names >>= (λ vs. called setting f vs at)))

-- a call of a name that isn't bound raises NameError, whatever its arguments are
abbrev pub UnboundCallLaw : Type 0
UnboundCallLaw = (setting : Setting) (name : List ℕ) (args : List Expr) (at : Place) (names : Names)
    → setting.resolve name ≡ resolution.Unbound
    → meaning_of setting (expression.Call name args) at names ≡ step (raises NameError at)

-- a literal is its value
abbrev pub LiteralLaw : Type 0
LiteralLaw = (setting : Setting) (v : Value) (at : Place) (names : Names)
    → meaning_of setting (expression.Lit v) at names ≡ step (gives v)

-- a tuple is its members from the left, and then the tuple of their values
abbrev pub TupleLaw : Type 0
TupleLaw = (setting : Setting) (es : List Expr) (at : Place) (names : Names)
    → meaning_of setting (expression.Tuple es) at names
    ≡ step (each (map (meaning_of setting) es) at names
    >>= (λ vs. settled (tuple_if_fits vs at.line)))
