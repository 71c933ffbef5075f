-- The expressions in one are those of its parts, and there is a cell for each.
use Rattle.std.proofs.Common.{◌≡◌, ℕ, suc, ◌+◌, List, [], ◌∷◌, ◌++◌, map, length, Option, Some, None, refl, sym, ap, ◌∙◌, append_assoc, append-nil}
use Rattle.std.specs.List.{flat_map}
use Rattle.std.proofs.lemmas.List.{length-append}
use Rattle.pyd_tree.specs.declared.expression.Expr.{Expr, out-Expr}
use Rattle.pyd_tree.specs.declared.expression.Expr.TheOpen.{Expr-F, Suffix-F}
use Rattle.pyd_tree.specs.declared.expression.Suffix.{Suffix, out-Suffix}
use Rattle.pyd_scope.specs.declared.cells.Origin.{Origin}
use Rattle.pyd_scope.specs.declared.cells.Origin.TheVariants.{Part, Low, High}
use Rattle.pyd_scope.specs.Numbering.{expressions}
use Rattle.pyd_scope.specs.Parting.{direct, brackets, direct_of, suffixes_of}
use Rattle.pyd_scope.specs.Cells.{placed_from, placed, bounds, bounds_from, expression_cells, suffix_parts, expression_parts, part_cells}
use Rattle.pyd_scope.proofs.Induction.{Each, Maybe, InBrackets, InParts, by_parts}
use Rattle.pyd_scope.proofs.Expressions.{bracketed_expressions, member_expressions, operand_expressions, all_bracketed, part_expressions, expressions_out}
use Rattle.pyd_scope.proofs.CellLevels.{cells_out}

-- the expressions in some parts
abbrev pub all_of : List (Origin × Expr) → List Expr
all_of ps = flat_map (λ p. expressions p.1) ps

-- in some and then others
all_of-append : (ps qs : List (Origin × Expr)) → all_of (ps ++ qs) ≡ all_of ps ++ all_of qs
all_of-append [] qs = refl
all_of-append (p ∷ ps) qs =
    ap (λ z. expressions p.1 ++ z) (all_of-append ps qs)
    ∙ sym (append_assoc (expressions p.1) (all_of ps) (all_of qs))

-- in parts by their places
placed_all : (origin : ℕ → Origin) (at : ℕ) (xs : List Expr)
    → all_of (placed_from origin at xs) ≡ member_expressions xs
placed_all origin at [] = refl
placed_all origin at (x ∷ xs) = ap (λ z. expressions x ++ z) (placed_all origin (suc at) xs)

-- in brackets
bounds_all : (of at : ℕ) (s : Suffix-F Expr Suffix)
    → all_of (bounds of at s) ≡ bracketed_expressions s
bounds_all of at (Suffix-F.Index index) = append-nil (expressions index)
bounds_all of at (Suffix-F.Slice None None) = refl
bounds_all of at (Suffix-F.Slice None (Some high)) = append-nil (expressions high)
bounds_all of at (Suffix-F.Slice (Some low) None) = refl
bounds_all of at (Suffix-F.Slice (Some low) (Some high)) =
    ap (λ z. expressions low ++ z) (append-nil (expressions high))

-- in all brackets
bounds_from_all : (of at : ℕ) (ss : List Suffix)
    → all_of (bounds_from suffix_parts of at ss) ≡ all_bracketed ss
bounds_from_all of at [] = refl
bounds_from_all of at (s ∷ ss) =
    all_of-append (suffix_parts of at s) (bounds_from suffix_parts of (suc at) ss)
    ∙ (λ i. bounds_all of at (out-Suffix s) i ++ bounds_from_all of (suc at) ss i)

-- in right operands
links_all : {A : Type 0} (links : List (A × Expr))
    → member_expressions (map (λ l. l.1) links) ≡ operand_expressions links
links_all [] = refl
links_all (l ∷ links) = ap (λ z. expressions l.1 ++ z) (links_all links)

-- in the parts of one level
pub level_all : (y : Expr-F Expr Suffix)
    → member_expressions (direct y) ++ all_bracketed (brackets y) ≡ part_expressions y
level_all (Expr-F.Lit v) = refl
level_all (Expr-F.Name name) = refl
level_all (Expr-F.Tuple members) = append-nil (member_expressions members)
level_all (Expr-F.Unary op operand) =
    append-nil (expressions operand ++ []) ∙ append-nil (expressions operand)
level_all (Expr-F.Chain first links) =
    append-nil (expressions first ++ member_expressions (map (λ l. l.1) links))
    ∙ ap (λ z. expressions first ++ z) (links_all links)
level_all (Expr-F.Power base exponent) =
    append-nil (expressions base ++ (expressions exponent ++ []))
    ∙ ap (λ z. expressions base ++ z) (append-nil (expressions exponent))
level_all (Expr-F.And members) = append-nil (member_expressions members)
level_all (Expr-F.Or members) = append-nil (member_expressions members)
level_all (Expr-F.Compare first links) =
    append-nil (expressions first ++ member_expressions (map (λ l. l.1) links))
    ∙ ap (λ z. expressions first ++ z) (links_all links)
level_all (Expr-F.If test first second) =
    append-nil (expressions first ++ (expressions test ++ (expressions second ++ [])))
    ∙ ap (λ z. expressions first ++ (expressions test ++ z)) (append-nil (expressions second))
level_all (Expr-F.Call name args) = append-nil (member_expressions args)
level_all (Expr-F.Suffixed base suffixes) =
    ap (λ z. z ++ all_bracketed suffixes) (append-nil (expressions base))

-- in the parts of an expression
pub parts_all : (n : ℕ) (e : Expr) → all_of (expression_parts n e) ≡ part_expressions (out-Expr e)
parts_all n e =
    all_of-append (placed_from (Part n) 0 (direct_of e))
    (bounds_from suffix_parts n 0 (suffixes_of e))
    ∙ (λ i. placed_all (Part n) 0 (direct_of e) i ++ bounds_from_all n 0 (suffixes_of e) i)
    ∙ level_all (out-Expr e)

-- what holds of each of some and of each of others
pub each-append : {A : Type 0} (P : A → Type 0) (xs ys : List A) → Each P xs → Each P ys
    → Each P (xs ++ ys)
each-append P [] ys p q = q
each-append P (x ∷ xs) ys p q = (p.0, each-append P xs ys p.1 q)

module _ (P : Expr → Type 0) where
  -- P of the expression of a part
  abbrev pub OfPart : Origin × Expr → Type 0
  OfPart p = P p.1

  -- of parts by their places
  placed_each : (origin : ℕ → Origin) (at : ℕ) (xs : List Expr) → Each P xs
      → Each OfPart (placed_from origin at xs)
  placed_each origin at [] q = tt
  placed_each origin at (x ∷ xs) q = (q.0, placed_each origin (suc at) xs q.1)

  -- of one that may be missing
  maybe_each : (origin : Origin) (o : Option Expr) → Maybe P o → Each OfPart (placed origin o)
  maybe_each origin None q = tt
  maybe_each origin (Some x) q = (q, tt)

  -- of the parts in brackets
  bounds_each : (of at : ℕ) (s : Suffix-F Expr Suffix) → InBrackets P s
      → Each OfPart (bounds of at s)
  bounds_each of at (Suffix-F.Index index) q = (q, tt)
  bounds_each of at (Suffix-F.Slice low high) q =
      each-append OfPart (placed (Low of at) low) (placed (High of at) high)
      (maybe_each (Low of at) low q.0) (maybe_each (High of at) high q.1)

  -- of those in all brackets
  bounds_from_each : (of at : ℕ) (ss : List Suffix) → Each (λ s. InBrackets P (out-Suffix s)) ss
      → Each OfPart (bounds_from suffix_parts of at ss)
  bounds_from_each of at [] q = tt
  bounds_from_each of at (s ∷ ss) q =
      each-append OfPart (suffix_parts of at s) (bounds_from suffix_parts of (suc at) ss)
      (bounds_each of at (out-Suffix s) q.0) (bounds_from_each of (suc at) ss q.1)

  -- of right operands
  links_each : {A : Type 0} (links : List (A × Expr)) → Each (λ l. P l.1) links
      → Each P (map (λ l. l.1) links)
  links_each [] q = tt
  links_each (l ∷ links) q = (q.0, links_each links q.1)

  -- of the parts outside brackets
  direct_each : (y : Expr-F Expr Suffix) → InParts P y → Each P (direct y)
  direct_each (Expr-F.Lit v) q = tt
  direct_each (Expr-F.Name name) q = tt
  direct_each (Expr-F.Tuple members) q = q
  direct_each (Expr-F.Unary op operand) q = (q, tt)
  direct_each (Expr-F.Chain first links) q = (q.0, links_each links q.1)
  direct_each (Expr-F.Power base exponent) q = (q.0, (q.1, tt))
  direct_each (Expr-F.And members) q = q
  direct_each (Expr-F.Or members) q = q
  direct_each (Expr-F.Compare first links) q = (q.0, links_each links q.1)
  direct_each (Expr-F.If test first second) q = (q.1.0, (q.0, (q.1.1, tt)))
  direct_each (Expr-F.Call name args) q = q
  direct_each (Expr-F.Suffixed base suffixes) q = (q.0, tt)

  -- of the parts in the brackets behind an expression
  brackets_each : (y : Expr-F Expr Suffix) → InParts P y
      → Each (λ s. InBrackets P (out-Suffix s)) (brackets y)
  brackets_each (Expr-F.Lit v) q = tt
  brackets_each (Expr-F.Name name) q = tt
  brackets_each (Expr-F.Tuple members) q = tt
  brackets_each (Expr-F.Unary op operand) q = tt
  brackets_each (Expr-F.Chain first links) q = tt
  brackets_each (Expr-F.Power base exponent) q = tt
  brackets_each (Expr-F.And members) q = tt
  brackets_each (Expr-F.Or members) q = tt
  brackets_each (Expr-F.Compare first links) q = tt
  brackets_each (Expr-F.If test first second) q = tt
  brackets_each (Expr-F.Call name args) q = tt
  brackets_each (Expr-F.Suffixed base suffixes) q = q.1

  -- of the parts of an expression
  pub parts_each : (n : ℕ) (e : Expr) → InParts P (out-Expr e)
      → Each OfPart (expression_parts n e)
  parts_each n e q =
      each-append OfPart (placed_from (Part n) 0 (direct_of e))
      (bounds_from suffix_parts n 0 (suffixes_of e))
      (placed_each (Part n) 0 (direct_of e) (direct_each (out-Expr e) q))
      (bounds_from_each n 0 (suffixes_of e) (brackets_each (out-Expr e) q))

-- an expression has as many cells as there are expressions in it
abbrev IsCounted : Expr → Type 0
IsCounted e = (origin : Origin) (n : ℕ)
    → length (expression_cells e origin n) ≡ length (expressions e)

-- so have parts
parts_counted : (ps : List (Origin × Expr)) (n : ℕ) → Each (OfPart IsCounted) ps
    → length (part_cells ps n) ≡ length (all_of ps)
parts_counted [] n q = refl
parts_counted (p ∷ ps) n q =
    length-append (expression_cells p.1 p.0 n)
    (part_cells ps (n + length (expression_cells p.1 p.0 n)))
    ∙ (λ i. q.0 p.0 n i + parts_counted ps (n + length (expression_cells p.1 p.0 n)) q.1 i)
    ∙ sym (length-append (expressions p.1) (all_of ps))

-- so has each expression
pub counted : (e : Expr) (origin : Origin) (n : ℕ)
    → length (expression_cells e origin n) ≡ length (expressions e)
counted =
    by_parts IsCounted (λ e q origin n.
    ap length (cells_out e origin n)
    ∙ ap suc (parts_counted (expression_parts n e) (suc n) (parts_each IsCounted n e q)
    ∙ ap length (parts_all n e))
    ∙ sym (ap length (expressions_out e)))
