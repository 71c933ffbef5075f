-- What values open as, so that small rows compute.
use Rattle.std.proofs.Common.{◌≡◌, ℕ, ℤ, List, [], ◌∷◌, ◌+◌, nat_lt, codes, map, length, Bool, true, false, encode_utf8_all, refl, ap, sym, ◌∙◌, rules}
use Rattle.std.proofs.Math.Utf8.{encode}
use Rattle.std.proofs.lemmas.Bool.{ltb-true}
use Rattle.std.proofs.lemmas.Str.{encode_ascii}
use Rattle.std.specs.Prelude.{Some}
use Rattle.std.specs.Fmt.{signed_decimal}
use Rattle.std.specs.Ordering.{int_cmp, nat_cmp}
use Rattle.std.specs.declared.cmp.Ordering.TheVariants.{Equal}
use Rattle.std.specs.Cmp.Lexicographic.{slice_cmp}
use Rattle.pyd_tree.specs.declared.expression.Expr.{Expr, out-Expr}
use Rattle.pyd_tree.specs.declared.expression.Expr.TheOpen.{Expr-F}
use Rattle.pyd_tree.specs.declared.expression.Expr.TheViews.{out-roll-Expr}
use Rattle.pyd_tree.specs.declared.expression.Expr.TheVariants as expression
use Rattle.pyd_value.specs.Comparison.{comparison_of}
use Rattle.pyd_value.specs.Shape.{number_in}
use Rattle.pyd_value.specs.Size.{size_of, nesting_of, total, greatest}
use Rattle.pyd_value.proofs.Constructs.{shape_of-int, comparison_of-numbers, comparison_of-texts, comparison_of-none, size_of-text, size_of-tuple, size_of-int, nesting_of-text, nesting_of-tuple, nesting_of-int}
use Rattle.pyd_text.specs.Texts.{repr, parenthesized}
use Rattle.pyd_value.specs.declared.value.Value.{Value, out-Value, the_lemmas}
use Rattle.pyd_value.specs.declared.value.Value.TheOpen.{Value-F}
use Rattle.pyd_value.specs.declared.value.Value.TheViews.{out-roll-Value}
use Rattle.pyd_value.specs.declared.value.Value.TheVariants as value

pub out-int : (n : ℤ) → out-Value (value.Int n) ≡ Value-F.Int n
out-int n = ap out-Value (sym (value.rolls-Int n)) ∙ out-roll-Value _

pub out-bool : (b : Bool) → out-Value (value.Bool b) ≡ Value-F.Bool b
out-bool b = ap out-Value (sym (value.rolls-Bool b)) ∙ out-roll-Value _

pub out-text : (s : List ℕ) → out-Value (value.Text s) ≡ Value-F.Text s
out-text s = ap out-Value (sym (value.rolls-Text s)) ∙ out-roll-Value _

pub out-tuple : (vs : List Value) → out-Value (value.Tuple vs) ≡ Value-F.Tuple vs
out-tuple vs = ap out-Value (sym (value.rolls-Tuple vs)) ∙ out-roll-Value _

pub out-none : out-Value value.None ≡ Value-F.None
out-none = ap out-Value (sym value.rolls-None) ∙ out-roll-Value _

pub comparison-ints : (m n : ℤ) → comparison_of (value.Int m) (value.Int n) ≡ Some (int_cmp m n)
comparison-ints m n = comparison_of-numbers (value.Int m) (value.Int n) m n (ap number_in (shape_of-int m)) (ap number_in (shape_of-int n))

pub size-text : (s : List ℕ) → size_of (value.Text s) ≡ 1 + length (encode_utf8_all s)
size-text s = size_of-text s

pub size-tuple : (vs : List Value) → size_of (value.Tuple vs) ≡ 1 + total (map size_of vs)
size-tuple vs = size_of-tuple vs

pub size-int : (n : ℤ) → size_of (value.Int n) ≡ 1
size-int n = size_of-int n

pub nesting-text : (s : List ℕ) → nesting_of (value.Text s) ≡ 0
nesting-text s = nesting_of-text s

pub nesting-tuple : (vs : List Value) → nesting_of (value.Tuple vs) ≡ 1 + greatest (map nesting_of vs)
nesting-tuple vs = nesting_of-tuple vs

pub nesting-int : (n : ℤ) → nesting_of (value.Int n) ≡ 0
nesting-int n = nesting_of-int n

-- a character in UTF-8, under another name
pub other_encode : ℕ → List ℕ
other_encode c = encode c

-- a character in UTF-8, where it is known whether it is ASCII
abbrev pub encode_if : Bool → ℕ → List ℕ
encode_if true c = c ∷ []
encode_if false c = other_encode c

-- by whether it is ASCII
tested : (c : ℕ) (b : Bool) → nat_lt c 128 ≡ b → encode c ≡ encode_if b c
unfolding other_encode
tested c true is = encode_ascii c (ltb-true c 128 is)
tested c false is = refl

-- a character of a row
pub encode-row : (c : ℕ) → encode c ≡ encode_if (nat_lt c 128) c
encode-row c = tested c (nat_lt c 128) refl

-- the texts of values
pub repr-int : (n : ℤ) → repr (value.Int n) ≡ signed_decimal n
repr-int n = search (rules, the_lemmas)

pub repr-true : repr (value.Bool true) ≡ codes "True"
repr-true = search (rules, the_lemmas)

pub repr-false : repr (value.Bool false) ≡ codes "False"
repr-false = search (rules, the_lemmas)

pub repr-none : repr value.None ≡ codes "None"
repr-none = search (rules, the_lemmas)

pub repr-tuple : (vs : List Value) → repr (value.Tuple vs) ≡ parenthesized (map repr vs)
repr-tuple vs = search (rules, the_lemmas)

-- texts and None compare
pub comparison-texts : (s t : List ℕ) → comparison_of (value.Text s) (value.Text t) ≡ Some (slice_cmp nat_cmp s t)
comparison-texts s t = comparison_of-texts s t

pub comparison-none : comparison_of value.None value.None ≡ Some Equal
comparison-none = comparison_of-none

-- the first levels of iterables
pub out-literal : (v : Value) → out-Expr (expression.Lit v) ≡ Expr-F.Lit v
out-literal v = ap out-Expr (sym (expression.rolls-Lit v)) ∙ out-roll-Expr _

pub out-members : (es : List Expr) → out-Expr (expression.Tuple es) ≡ Expr-F.Tuple es
out-members es = ap out-Expr (sym (expression.rolls-Tuple es)) ∙ out-roll-Expr _

pub out-call : (name : List ℕ) (args : List Expr) → out-Expr (expression.Call name args) ≡ Expr-F.Call name args
out-call name args = ap out-Expr (sym (expression.rolls-Call name args)) ∙ out-roll-Expr _
