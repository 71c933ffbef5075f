-- What an expression does (Python Language Reference, section 6), at a place and with names bound.
use Rattle.std.specs.Prelude.{List, [], ◌∷◌, Bool, true, false, Option, Some, None}
use Rattle.pyd_value.specs.declared.value.Value.{Value, Bool as Truth}
use Rattle.pyd_value.specs.declared.operator.BinOp.{BinOp}
use Rattle.pyd_value.specs.declared.operator.BinOp.TheVariants.{Pow}
use Rattle.pyd_value.specs.declared.operator.CmpOp.{CmpOp}
use Rattle.pyd_value.specs.Truth.{is_true}
use Rattle.pyd_tree.specs.declared.expression.Expr.{Expr, fold-Expr}
use Rattle.pyd_tree.specs.declared.expression.Expr.TheOpen.{Expr-F, Suffix-F}
use Rattle.pyd_tree.specs.declared.expression.Suffix.{Suffix, fold-Suffix}
use Rattle.pyd_ops.specs.Operators.{unary, binary}
use Rattle.pyd_ops.specs.Comparing.{compare}
use Rattle.pyd_ops.specs.Indexing.{index, slice}
use Rattle.pyd_ops.specs.Joining.{tuple_if_fits}
use Rattle.pyd_meaning.specs.Evaluation.{Evaluation, settled, gives, step, ◌>>=◌}
use Rattle.pyd_meaning.specs.Names.{Names}
use Rattle.pyd_meaning.specs.Setting.{Place, Setting}
use Rattle.pyd_meaning.specs.Reference.{read, callee}
use Rattle.pyd_meaning.specs.Calls.{called}

-- what an expression does
abbrev pub Meaning : Type 0
Meaning = Place → Names → Evaluation Value

-- what stands in brackets does with the value that it stands behind
abbrev pub SuffixMeaning : Type 0
SuffixMeaning = Value → Meaning

-- the first where a test holds, else the second
abbrev pub branch : {A : Type 0} → Bool → (Names → Evaluation A) → (Names → Evaluation A)
    → Names → Evaluation A
branch true first second names = first names
branch false first second names = second names

-- each in turn, and then all their values
unfoldable pub each : List Meaning → Place → Names → Evaluation (List Value)
each [] at names = gives []
each (e ∷ es) at names = e at names >>= (λ v. each es at names >>= (λ vs. gives (v ∷ vs)))

-- what may be missing
abbrev pub optional : Option Meaning → Place → Names → Evaluation (Option Value)
optional None at names = gives None
optional (Some e) at names = e at names >>= (λ v. gives (Some v))

-- operators of one level from the left, each on the value so far
unfoldable pub chained : Value → List (BinOp × Meaning) → Meaning
chained a [] at names = gives a
chained a (link ∷ links) at names =
    link.1 at names >>= (λ b. settled (binary link.0 a b at.line) >>= (λ c. chained c links at names))

-- an `and` from a member on: its value where that is false, else the members behind it; of none True
unfoldable pub conjunction : List Meaning → Meaning
conjunction [] at names = gives (Truth true)
conjunction (e ∷ []) at names = e at names
conjunction (e ∷ f ∷ es) at names =
    e at names >>= (λ v. branch (is_true v) (conjunction (f ∷ es) at) (λ now. gives v) names)

-- an `or` from a member on: its value where that is true, else the members behind it; of none False
unfoldable pub disjunction : List Meaning → Meaning
disjunction [] at names = gives (Truth false)
disjunction (e ∷ []) at names = e at names
disjunction (e ∷ f ∷ es) at names =
    e at names >>= (λ v. branch (is_true v) (λ now. gives v) (disjunction (f ∷ es) at) names)

-- a comparison from a link on, with its left operand: the first link that is false, else the last; of none True
unfoldable pub compared : Value → List (CmpOp × Meaning) → Meaning
compared a [] at names = gives (Truth true)
compared a (link ∷ []) at names = link.1 at names >>= (λ b. settled (compare link.0 a b at.line))
compared a (link ∷ next ∷ links) at names =
    link.1 at names >>= (λ b. settled (compare link.0 a b at.line)
    >>= (λ c. branch (is_true c) (compared b (next ∷ links) at) (λ now. gives c) names))

-- what stands in brackets behind a value, from the left
unfoldable pub suffixed : Value → List SuffixMeaning → Meaning
suffixed a [] at names = gives a
suffixed a (s ∷ ss) at names = s a at names >>= (λ v. suffixed v ss at names)

-- one level of an expression, whose parts are replaced by their meanings
abbrev pub expression_step : Setting → Expr-F Meaning SuffixMeaning → Meaning
expression_step setting (Expr-F.Lit v) at names = step (gives v)
expression_step setting (Expr-F.Name name) at names = step (read setting name at names)
expression_step setting (Expr-F.Tuple es) at names =
    step (each es at names >>= (λ vs. settled (tuple_if_fits vs at.line)))
expression_step setting (Expr-F.Unary op e) at names =
    step (e at names >>= (λ v. settled (unary op v at.line)))
expression_step setting (Expr-F.Chain first links) at names =
    step (first at names >>= (λ a. chained a links at names))
expression_step setting (Expr-F.Power base exponent) at names =
    step (base at names >>= (λ a. exponent at names >>= (λ b. settled (binary Pow a b at.line))))
expression_step setting (Expr-F.And es) at names = step (conjunction es at names)
expression_step setting (Expr-F.Or es) at names = step (disjunction es at names)
expression_step setting (Expr-F.Compare first links) at names =
    step (first at names >>= (λ a. compared a links at names))
expression_step setting (Expr-F.If test first second) at names =
    step (test at names >>= (λ v. branch (is_true v) (first at) (second at) names))
expression_step setting (Expr-F.Call name args) at names =
    step (callee setting name at names
    >>= (λ f. each args at names >>= (λ vs. called setting f vs at)))
expression_step setting (Expr-F.Suffixed base suffixes) at names =
    step (base at names >>= (λ a. suffixed a suffixes at names))

-- one level of what stands in brackets
abbrev pub suffix_step : Suffix-F Meaning SuffixMeaning → SuffixMeaning
suffix_step (Suffix-F.Index e) a at names =
    step (e at names >>= (λ i. settled (index a i at.line)))
suffix_step (Suffix-F.Slice low high) a at names =
    step (optional low at names >>= (λ l. optional high at names
    >>= (λ h. settled (slice a (record { low = l; high = h }) at.line))))

-- what an expression does
unfoldable pub meaning_of : Setting → Expr → Meaning
meaning_of setting = fold-Expr Meaning SuffixMeaning (expression_step setting) suffix_step

-- what stands in brackets does
unfoldable pub suffix_of : Setting → Suffix → SuffixMeaning
suffix_of setting = fold-Suffix Meaning SuffixMeaning (expression_step setting) suffix_step
