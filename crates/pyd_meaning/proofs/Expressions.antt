-- What each form of expression does.
use Rattle.std.proofs.Common.{◌≡◌, ℕ, ℤ, ◌+ℤ◌, map, Some, None, refl, sym, ap, ◌∙◌}
use Rattle.pyd_value.specs.declared.value.Value.TheVariants.{Int}
use Rattle.pyd_value.specs.declared.operator.BinOp.TheVariants.{Add}
use Rattle.pyd_value.specs.Shape.{number, shape_of}
use Rattle.pyd_value.proofs.Constructs.{shape_of-int}
use Rattle.pyd_ops.specs.Integer.{integer}
use Rattle.pyd_ops.specs.Operators.{add, binary}
use Rattle.pyd_tree.specs.declared.expression.Expr.TheFolds.{fold-roll-Expr, fold-roll-Suffix}
use Rattle.pyd_tree.specs.declared.expression.Expr.TheOpen.{Expr-F, Suffix-F}
use Rattle.pyd_tree.specs.declared.expression.Expr.TheVariants as expression
use Rattle.pyd_tree.specs.declared.expression.Suffix.TheVariants as suffix
use Rattle.pyd_value.specs.declared.fault.Fault.TheVariants.{Raised}
use Rattle.pyd_value.specs.declared.fault.Kind.TheVariants.{NameError}
use Rattle.pyd_meaning.specs.Evaluation.{gives, step, ◌>>=◌}
use Rattle.pyd_meaning.specs.Reference.{read_as, callee_as, Uncallable}
use Rattle.pyd_meaning.specs.Calls.{called}
use Rattle.pyd_meaning.specs.Expression.{Meaning, SuffixMeaning, each, chained, meaning_of, suffix_of, expression_step, suffix_step}
use Rattle.pyd_meaning.specs.Laws.{ConditionalLaw, OrLaw, AndLaw, ComparisonLaw, ChainLaw, SumLaw, UnaryLaw, PowerLaw, SuffixedLaw, IndexLaw, SliceLaw, NameLaw, CallLaw, UnboundCallLaw, LiteralLaw, TupleLaw}
use Rattle.pyd_meaning.proofs.Sequencing.{gives-then, faults-then, step-then}

-- a conditional expression is its test, and then one of its sides
pub conditional : ConditionalLaw
unfolding meaning_of suffix_of
conditional setting test first second at names =
    ap (λ e. meaning_of setting e at names) (sym (expression.rolls-If test first second))
    ∙ ap (λ (m : Meaning). m at names) (fold-roll-Expr Meaning SuffixMeaning (expression_step setting) suffix_step (Expr-F.If test first second))

-- an `or` is its members up to the first that is true
pub disjunction : OrLaw
unfolding meaning_of suffix_of
disjunction setting es at names =
    ap (λ e. meaning_of setting e at names) (sym (expression.rolls-Or es))
    ∙ ap (λ (m : Meaning). m at names) (fold-roll-Expr Meaning SuffixMeaning (expression_step setting) suffix_step (Expr-F.Or es))

-- an `and` is its members up to the first that is false
pub conjunction : AndLaw
unfolding meaning_of suffix_of
conjunction setting es at names =
    ap (λ e. meaning_of setting e at names) (sym (expression.rolls-And es))
    ∙ ap (λ (m : Meaning). m at names) (fold-roll-Expr Meaning SuffixMeaning (expression_step setting) suffix_step (Expr-F.And es))

-- a comparison is its first operand, and then its links
pub comparison : ComparisonLaw
unfolding meaning_of suffix_of
comparison setting first links at names =
    ap (λ e. meaning_of setting e at names) (sym (expression.rolls-Compare first links))
    ∙ ap (λ (m : Meaning). m at names) (fold-roll-Expr Meaning SuffixMeaning (expression_step setting) suffix_step (Expr-F.Compare first links))

-- a chain is its first operand, and then its operators
pub chain : ChainLaw
unfolding meaning_of suffix_of
chain setting first links at names =
    ap (λ e. meaning_of setting e at names) (sym (expression.rolls-Chain first links))
    ∙ ap (λ (m : Meaning). m at names) (fold-roll-Expr Meaning SuffixMeaning (expression_step setting) suffix_step (Expr-F.Chain first links))

-- an operator before an operand
pub unary : UnaryLaw
unfolding meaning_of suffix_of
unary setting op e at names =
    ap (λ e. meaning_of setting e at names) (sym (expression.rolls-Unary op e))
    ∙ ap (λ (m : Meaning). m at names) (fold-roll-Expr Meaning SuffixMeaning (expression_step setting) suffix_step (Expr-F.Unary op e))

-- a power
pub power : PowerLaw
unfolding meaning_of suffix_of
power setting base exponent at names =
    ap (λ e. meaning_of setting e at names) (sym (expression.rolls-Power base exponent))
    ∙ ap (λ (m : Meaning). m at names) (fold-roll-Expr Meaning SuffixMeaning (expression_step setting) suffix_step (Expr-F.Power base exponent))

-- an expression with brackets behind it
pub suffixed : SuffixedLaw
unfolding meaning_of suffix_of
suffixed setting base ss at names =
    ap (λ e. meaning_of setting e at names) (sym (expression.rolls-Suffixed base ss))
    ∙ ap (λ (m : Meaning). m at names) (fold-roll-Expr Meaning SuffixMeaning (expression_step setting) suffix_step (Expr-F.Suffixed base ss))

-- a name is read
pub name_read : NameLaw
unfolding meaning_of suffix_of
name_read setting name at names =
    ap (λ e. meaning_of setting e at names) (sym (expression.rolls-Name name))
    ∙ ap (λ (m : Meaning). m at names) (fold-roll-Expr Meaning SuffixMeaning (expression_step setting) suffix_step (Expr-F.Name name))

-- a call is its callee, its arguments, and then what it does
pub call : CallLaw
unfolding meaning_of suffix_of
call setting name args at names =
    ap (λ e. meaning_of setting e at names) (sym (expression.rolls-Call name args))
    ∙ ap (λ (m : Meaning). m at names) (fold-roll-Expr Meaning SuffixMeaning (expression_step setting) suffix_step (Expr-F.Call name args))

-- a literal is its value
pub literal : LiteralLaw
unfolding meaning_of suffix_of
literal setting v at names =
    ap (λ e. meaning_of setting e at names) (sym (expression.rolls-Lit v))
    ∙ ap (λ (m : Meaning). m at names) (fold-roll-Expr Meaning SuffixMeaning (expression_step setting) suffix_step (Expr-F.Lit v))

-- a tuple is its members, and then the tuple of their values
pub tuple : TupleLaw
unfolding meaning_of suffix_of
tuple setting es at names =
    ap (λ e. meaning_of setting e at names) (sym (expression.rolls-Tuple es))
    ∙ ap (λ (m : Meaning). m at names) (fold-roll-Expr Meaning SuffixMeaning (expression_step setting) suffix_step (Expr-F.Tuple es))

-- an index behind a value
pub index : IndexLaw
unfolding meaning_of suffix_of
index setting e a at names =
    ap (λ s. suffix_of setting s a at names) (sym (suffix.rolls-Index e))
    ∙ ap (λ (m : SuffixMeaning). m a at names) (fold-roll-Suffix Meaning SuffixMeaning (expression_step setting) suffix_step (Suffix-F.Index e))

-- a slice behind a value
pub slice : SliceLaw
unfolding meaning_of suffix_of
slice setting None None a at names =
    ap (λ s. suffix_of setting s a at names) (sym (suffix.rolls-Slice None None))
    ∙ ap (λ (m : SuffixMeaning). m a at names) (fold-roll-Suffix Meaning SuffixMeaning (expression_step setting) suffix_step (Suffix-F.Slice None None))
slice setting None (Some h) a at names =
    ap (λ s. suffix_of setting s a at names) (sym (suffix.rolls-Slice None (Some h)))
    ∙ ap (λ (m : SuffixMeaning). m a at names) (fold-roll-Suffix Meaning SuffixMeaning (expression_step setting) suffix_step (Suffix-F.Slice None (Some h)))
slice setting (Some l) None a at names =
    ap (λ s. suffix_of setting s a at names) (sym (suffix.rolls-Slice (Some l) None))
    ∙ ap (λ (m : SuffixMeaning). m a at names) (fold-roll-Suffix Meaning SuffixMeaning (expression_step setting) suffix_step (Suffix-F.Slice (Some l) None))
slice setting (Some l) (Some h) a at names =
    ap (λ s. suffix_of setting s a at names) (sym (suffix.rolls-Slice (Some l) (Some h)))
    ∙ ap (λ (m : SuffixMeaning). m a at names) (fold-roll-Suffix Meaning SuffixMeaning (expression_step setting) suffix_step (Suffix-F.Slice (Some l) (Some h)))

-- a call of a name that isn't bound
pub unbound_call : UnboundCallLaw
unbound_call setting name args at names unbound =
    call setting name args at names
    ∙ ap (λ r. step (callee_as r (read_as r setting.routine (names name) at) >>= (λ f. each (map (meaning_of setting) args) at names >>= (λ vs. called setting f vs at)))) unbound
    ∙ ap step (ap (λ m. m >>= (λ f. each (map (meaning_of setting) args) at names >>= (λ vs. called setting f vs at))) (faults-then (Raised NameError at.line) (λ v. gives Uncallable)) ∙ faults-then (Raised NameError at.line) (λ f. each (map (meaning_of setting) args) at names >>= (λ vs. called setting f vs at)))

-- the sum of two integers
binary-integers : (a b : ℤ) (line : ℕ) → binary Add (Int a) (Int b) line ≡ integer (a +ℤ b) line
binary-integers a b line =
    ap (λ x. add x (shape_of (Int b)) line) (shape_of-int a) ∙ ap (λ x. add (number a) x line) (shape_of-int b)

-- each `+` in turn
pub sum : SumLaw
unfolding chained
sum a b e links at names gives_b = rw (gives_b, step-then, gives-then, binary-integers) refl
