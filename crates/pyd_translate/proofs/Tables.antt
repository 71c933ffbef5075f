-- Each expression of a routine's table stands at its number, with all that stands in it.
use Rattle.std.proofs.Common.{◌≡◌, ℕ, zero, suc, List, [], ◌∷◌, ◌++◌, append_assoc, append-nil, sym, ap, subst, ◌∙◌, Option, Some, None}
use Rattle.std.specs.List.{slice_get}
use Rattle.pyd_tree.specs.declared.expression.Expr.{Expr, out-Expr}
use Rattle.pyd_tree.specs.declared.expression.Expr.TheOpen.{Expr-F, Suffix-F}
use Rattle.pyd_tree.specs.declared.expression.Suffix.{Suffix, out-Suffix}
use Rattle.pyd_tree.specs.declared.file.File.{File}
use Rattle.pyd_scope.specs.Numbering.{expressions, Contents, body, expression_table}
use Rattle.pyd_translate.specs.Laws.{Stands}
use Rattle.pyd_translate.proofs.Induction.{Each, Maybe, InBrackets, InParts, by_parts}
use Rattle.pyd_translate.proofs.Within.{maybe_expressions, bracketed_expressions, suffix_expressions, member_expressions, operand_expressions, all_bracketed, part_expressions, expressions_out}
use Rattle.pyd_translate.proofs.Contents.{IsKeptBy, of_contents}

-- each expression of a list stands at its number, with all that stands in it
IsClosed : List Expr → Type 0
IsClosed xs = (k : ℕ) (e : Expr) → slice_get xs k ≡ Some e → Stands xs k (expressions e)

-- a list without an expression
closed-none : IsClosed []
unfolding IsClosed
closed-none k e found = absurd (cc found)

-- one list and then another
closed-both : (xs ys : List Expr) → IsClosed xs → IsClosed ys → IsClosed (xs ++ ys)
unfolding IsClosed
closed-both [] ys p q k e found = q k e found
closed-both (x ∷ xs) ys p q zero e found =
    let s = p zero e found in
    (s.0 ++ ys, ap (λ z. z ++ ys) s.1 ∙ append_assoc (expressions e) s.0 ys)
closed-both (x ∷ xs) ys p q (suc k) e found =
    closed-both xs ys (λ j d is. p (suc j) d is) q k e found

-- an expression and those in its parts
closed-first : (e : Expr) (xs : List Expr) → expressions e ≡ e ∷ xs → IsClosed xs → IsClosed (e ∷ xs)
unfolding IsClosed
closed-first e xs is p zero d found =
    let same : Some e ≡ Some d = found in
    let it : e ≡ d = cc same in
    ([], sym is ∙ ap expressions it ∙ sym (append-nil (expressions d)))
closed-first e xs is p (suc k) d found = p k d found

-- the expressions in one are closed
abbrev Closes : Expr → Type 0
Closes e = IsClosed (expressions e)

-- several
closed-members : (es : List Expr) → Each Closes es → IsClosed (member_expressions es)
closed-members [] p = closed-none
closed-members (e ∷ es) p = closed-both (expressions e) (member_expressions es) p.0 (closed-members es p.1)

-- right operands
closed-operands : {A : Type 0} (links : List (A × Expr)) → Each (λ l. Closes l.1) links → IsClosed (operand_expressions links)
closed-operands [] p = closed-none
closed-operands (l ∷ links) p = closed-both (expressions l.1) (operand_expressions links) p.0 (closed-operands links p.1)

-- what may be missing
closed-maybe : (o : Option Expr) → Maybe Closes o → IsClosed (maybe_expressions o)
closed-maybe None p = closed-none
closed-maybe (Some e) p = p

-- one level of brackets
closed-brackets : (y : Suffix-F Expr Suffix) → InBrackets Closes y → IsClosed (bracketed_expressions y)
closed-brackets (Suffix-F.Index index) p = p
closed-brackets (Suffix-F.Slice low high) p =
    closed-both (maybe_expressions low) (maybe_expressions high) (closed-maybe low p.0) (closed-maybe high p.1)

-- all brackets
closed-suffixes : (ss : List Suffix) → Each (λ s. InBrackets Closes (out-Suffix s)) ss → IsClosed (all_bracketed ss)
closed-suffixes [] p = closed-none
closed-suffixes (s ∷ ss) p =
    closed-both (suffix_expressions s) (all_bracketed ss) (closed-brackets (out-Suffix s) p.0) (closed-suffixes ss p.1)

-- one level of an expression
closed-parts : (y : Expr-F Expr Suffix) → InParts Closes y → IsClosed (part_expressions y)
closed-parts (Expr-F.Lit v) p = closed-none
closed-parts (Expr-F.Name name) p = closed-none
closed-parts (Expr-F.Tuple members) p = closed-members members p
closed-parts (Expr-F.Unary op operand) p = p
closed-parts (Expr-F.Chain first links) p =
    closed-both (expressions first) (operand_expressions links) p.0 (closed-operands links p.1)
closed-parts (Expr-F.Power base exponent) p = closed-both (expressions base) (expressions exponent) p.0 p.1
closed-parts (Expr-F.And members) p = closed-members members p
closed-parts (Expr-F.Or members) p = closed-members members p
closed-parts (Expr-F.Compare first links) p =
    closed-both (expressions first) (operand_expressions links) p.0 (closed-operands links p.1)
closed-parts (Expr-F.If test first second) p =
    closed-both (expressions first) (expressions test ++ expressions second) p.1.0
    (closed-both (expressions test) (expressions second) p.0 p.1.1)
closed-parts (Expr-F.Call name args) p = closed-members args p
closed-parts (Expr-F.Suffixed base suffixes) p =
    closed-both (expressions base) (all_bracketed suffixes) p.0 (closed-suffixes suffixes p.1)

-- each expression with those in it
closed : (e : Expr) → Closes e
closed =
    by_parts Closes (λ e p. subst IsClosed (sym (expressions_out e))
    (closed-first e (part_expressions (out-Expr e)) (expressions_out e) (closed-parts (out-Expr e) p)))

-- the expressions in contents are closed
abbrev Holds : Contents → Type 0
Holds c = IsClosed c.expressions

-- all contents are such
contents_hold : IsKeptBy Holds
contents_hold = record {
  none = closed-none;
  one = λ e. closed e;
  both = λ a b p q. closed-both a.expressions b.expressions p q;
  first = λ s ss p. p;
}

-- an expression that was looked up in a routine's table stands there
pub found_stands : (file : File) (routine k : ℕ) (e : Expr)
    → slice_get (expression_table file routine) k ≡ Some e
    → Stands (expression_table file routine) k (expressions e)
unfolding IsClosed
found_stands file routine k e found = of_contents Holds contents_hold (body file routine) k e found
