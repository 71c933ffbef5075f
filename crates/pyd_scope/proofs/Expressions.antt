-- Which expressions stand in one: itself, and then those in its parts, in text order.
use Rattle.std.proofs.Common.{◌≡◌, List, [], ◌∷◌, ◌++◌, map, Option, Some, None, refl, sym, ap, ◌∙◌}
use Rattle.std.specs.List.{flat_map}
use Rattle.pyd_tree.specs.declared.expression.Expr.{Expr, out-Expr, roll-Expr, fold-Expr}
use Rattle.pyd_tree.specs.declared.expression.Expr.TheOpen.{Expr-F, Suffix-F}
use Rattle.pyd_tree.specs.declared.expression.Expr.TheViews.{roll-out-Expr, roll-out-Suffix}
use Rattle.pyd_tree.specs.declared.expression.Expr.TheFolds.{map-Expr, map-Suffix, fold_out-Expr, fold_out-Suffix}
use Rattle.pyd_tree.specs.declared.expression.Suffix.{Suffix, out-Suffix, roll-Suffix, fold-Suffix}
use Rattle.pyd_scope.specs.Numbering.{Within, within_step, brackets_step, parts, bracketed, operands, expressions}
use Rattle.pyd_scope.proofs.Induction.{Each, InBrackets, InParts, by_parts}

-- the expressions in one that may be missing
abbrev pub maybe_expressions : Option Expr → List Expr
maybe_expressions None = []
maybe_expressions (Some e) = expressions e

-- the expressions in brackets, by their first level
abbrev pub bracketed_expressions : Suffix-F Expr Suffix → List Expr
bracketed_expressions (Suffix-F.Index index) = expressions index
bracketed_expressions (Suffix-F.Slice low high) = maybe_expressions low ++ maybe_expressions high

-- the expressions in brackets
abbrev pub suffix_expressions : Suffix → List Expr
suffix_expressions s = bracketed_expressions (out-Suffix s)

-- the expressions in several
abbrev pub member_expressions : List Expr → List Expr
member_expressions es = flat_map expressions es

-- the expressions in right operands
abbrev pub operand_expressions : {A : Type 0} → List (A × Expr) → List Expr
operand_expressions links = flat_map (λ l. expressions l.1) links

-- the expressions in all brackets
abbrev pub all_bracketed : List Suffix → List Expr
all_bracketed suffixes = flat_map suffix_expressions suffixes

-- the expressions in the parts of one, by its first level
abbrev pub part_expressions : Expr-F Expr Suffix → List Expr
part_expressions (Expr-F.Lit v) = []
part_expressions (Expr-F.Name name) = []
part_expressions (Expr-F.Tuple members) = member_expressions members
part_expressions (Expr-F.Unary op operand) = expressions operand
part_expressions (Expr-F.Chain first links) = expressions first ++ operand_expressions links
part_expressions (Expr-F.Power base exponent) = expressions base ++ expressions exponent
part_expressions (Expr-F.And members) = member_expressions members
part_expressions (Expr-F.Or members) = member_expressions members
part_expressions (Expr-F.Compare first links) = expressions first ++ operand_expressions links
part_expressions (Expr-F.If test first second) =
    expressions first ++ (expressions test ++ expressions second)
part_expressions (Expr-F.Call name args) = member_expressions args
part_expressions (Expr-F.Suffixed base suffixes) = expressions base ++ all_bracketed suffixes

-- an expression as the numbering sees it
abbrev within : Expr → Within Expr
within = fold-Expr (Within Expr) (Within Suffix) within_step brackets_step

-- brackets as the numbering sees them
abbrev within_suffix : Suffix → Within Suffix
within_suffix = fold-Suffix (Within Expr) (Within Suffix) within_step brackets_step

-- one level of an expression as the numbering sees it
abbrev level : Expr-F Expr Suffix → Expr-F (Within Expr) (Within Suffix)
level y = map-Expr Expr Suffix (Within Expr) (Within Suffix) within within_suffix y

-- one level of brackets
abbrev suffix_level : Suffix-F Expr Suffix → Suffix-F (Within Expr) (Within Suffix)
suffix_level y = map-Suffix Expr Suffix (Within Expr) (Within Suffix) within within_suffix y

-- the numbering of an expression, by its first level
within_out : (e : Expr) → within e ≡ within_step (level (out-Expr e))
within_out e = fold_out-Expr (Within Expr) (Within Suffix) within_step brackets_step e

-- the numbering of brackets
within_out_suffix : (s : Suffix) → within_suffix s ≡ brackets_step (suffix_level (out-Suffix s))
within_out_suffix s = fold_out-Suffix (Within Expr) (Within Suffix) within_step brackets_step s

-- the numbering keeps an expression
abbrev IsSelf : Expr → Type 0
IsSelf e = (within e).self ≡ e

-- it keeps several
members_self : (es : List Expr) → Each IsSelf es → map (λ w. w.self) (map within es) ≡ es
members_self [] p = refl
members_self (e ∷ es) p = λ i. p.0 i ∷ members_self es p.1 i

-- it keeps right operands
operands_self : {A : Type 0} (links : List (A × Expr)) → Each (λ l. IsSelf l.1) links
    → map (λ (l : A × Within Expr). (l.0, l.1.self)) (map (λ l. (l.0, within l.1)) links) ≡ links
operands_self [] p = refl
operands_self (l ∷ links) p = λ i. (l.0, p.0 i) ∷ operands_self links p.1 i

-- it keeps one level of brackets
suffix_level_self : (y : Suffix-F Expr Suffix) → InBrackets IsSelf y
    → map-Suffix (Within Expr) (Within Suffix) Expr Suffix (λ x. x.self) (λ x. x.self)
    (suffix_level y) ≡ y
suffix_level_self (Suffix-F.Index index) p = λ i. Suffix-F.Index (p i)
suffix_level_self (Suffix-F.Slice None None) p = refl
suffix_level_self (Suffix-F.Slice None (Some high)) p = λ i. Suffix-F.Slice None (Some (p.1 i))
suffix_level_self (Suffix-F.Slice (Some low) None) p = λ i. Suffix-F.Slice (Some (p.0 i)) None
suffix_level_self (Suffix-F.Slice (Some low) (Some high)) p =
    λ i. Suffix-F.Slice (Some (p.0 i)) (Some (p.1 i))

-- it keeps brackets
suffix_self : (s : Suffix) → InBrackets IsSelf (out-Suffix s) → (within_suffix s).self ≡ s
suffix_self s p =
    ap (λ x. x.self) (within_out_suffix s)
    ∙ ap roll-Suffix (suffix_level_self (out-Suffix s) p)
    ∙ roll-out-Suffix s

-- it keeps all brackets
suffixes_self : (ss : List Suffix) → Each (λ s. InBrackets IsSelf (out-Suffix s)) ss
    → map (λ w. w.self) (map within_suffix ss) ≡ ss
suffixes_self [] p = refl
suffixes_self (s ∷ ss) p = λ i. suffix_self s p.0 i ∷ suffixes_self ss p.1 i

-- it keeps one level of an expression
level_self : (y : Expr-F Expr Suffix) → InParts IsSelf y
    → map-Expr (Within Expr) (Within Suffix) Expr Suffix (λ x. x.self) (λ x. x.self) (level y) ≡ y
level_self (Expr-F.Lit v) p = refl
level_self (Expr-F.Name name) p = refl
level_self (Expr-F.Tuple members) p = ap (λ es. Expr-F.Tuple es) (members_self members p)
level_self (Expr-F.Unary op operand) p = λ i. Expr-F.Unary op (p i)
level_self (Expr-F.Chain first links) p = λ i. Expr-F.Chain (p.0 i) (operands_self links p.1 i)
level_self (Expr-F.Power base exponent) p = λ i. Expr-F.Power (p.0 i) (p.1 i)
level_self (Expr-F.And members) p = ap (λ es. Expr-F.And es) (members_self members p)
level_self (Expr-F.Or members) p = ap (λ es. Expr-F.Or es) (members_self members p)
level_self (Expr-F.Compare first links) p = λ i. Expr-F.Compare (p.0 i) (operands_self links p.1 i)
level_self (Expr-F.If test first second) p = λ i. Expr-F.If (p.0 i) (p.1.0 i) (p.1.1 i)
level_self (Expr-F.Call name args) p = ap (λ es. Expr-F.Call name es) (members_self args p)
level_self (Expr-F.Suffixed base suffixes) p =
    λ i. Expr-F.Suffixed (p.0 i) (suffixes_self suffixes p.1 i)

-- it keeps each expression
within_self : (e : Expr) → (within e).self ≡ e
within_self =
    by_parts IsSelf (λ e p. ap (λ x. x.self) (within_out e) ∙ ap roll-Expr (level_self (out-Expr e) p)
    ∙ roll-out-Expr e)

-- the expressions in several
members_all : (es : List Expr) → flat_map (λ w. w.all) (map within es) ≡ member_expressions es
unfolding expressions
members_all [] = refl
members_all (e ∷ es) = ap (λ xs. expressions e ++ xs) (members_all es)

-- the expressions in right operands
operands_all : {A : Type 0} (links : List (A × Expr))
    → operands (map (λ l. (l.0, within l.1)) links) ≡ operand_expressions links
unfolding expressions
operands_all [] = refl
operands_all (l ∷ links) = ap (λ xs. expressions l.1 ++ xs) (operands_all links)

-- the expressions in brackets
suffix_level_all : (y : Suffix-F Expr Suffix)
    → bracketed (suffix_level y) ≡ bracketed_expressions y
unfolding expressions
suffix_level_all (Suffix-F.Index index) = refl
suffix_level_all (Suffix-F.Slice None None) = refl
suffix_level_all (Suffix-F.Slice None (Some high)) = refl
suffix_level_all (Suffix-F.Slice (Some low) None) = refl
suffix_level_all (Suffix-F.Slice (Some low) (Some high)) = refl

-- the expressions in all brackets
suffixes_all : (ss : List Suffix)
    → flat_map (λ w. w.all) (map within_suffix ss) ≡ all_bracketed ss
suffixes_all [] = refl
suffixes_all (s ∷ ss) =
    λ i. (ap (λ x. x.all) (within_out_suffix s) ∙ suffix_level_all (out-Suffix s)) i
    ++ suffixes_all ss i

-- the expressions in the parts of one
parts_all : (y : Expr-F Expr Suffix) → parts (level y) ≡ part_expressions y
unfolding expressions
parts_all (Expr-F.Lit v) = refl
parts_all (Expr-F.Name name) = refl
parts_all (Expr-F.Tuple members) = members_all members
parts_all (Expr-F.Unary op operand) = refl
parts_all (Expr-F.Chain first links) = ap (λ xs. expressions first ++ xs) (operands_all links)
parts_all (Expr-F.Power base exponent) = refl
parts_all (Expr-F.And members) = members_all members
parts_all (Expr-F.Or members) = members_all members
parts_all (Expr-F.Compare first links) = ap (λ xs. expressions first ++ xs) (operands_all links)
parts_all (Expr-F.If test first second) = refl
parts_all (Expr-F.Call name args) = members_all args
parts_all (Expr-F.Suffixed base suffixes) = ap (λ xs. expressions base ++ xs) (suffixes_all suffixes)

-- the expressions in one are itself, and then those in its parts
pub expressions_out : (e : Expr) → expressions e ≡ e ∷ part_expressions (out-Expr e)
unfolding expressions
expressions_out e =
    ap (λ x. x.all) (within_out e)
    ∙ (λ i. (sym (ap (λ x. x.self) (within_out e)) ∙ within_self e) i ∷ parts_all (out-Expr e) i)
