-- A side has 3 nodes for each expression and suffix in its expression at most, also where only the tail is left.
use Rattle.std.proofs.Common.{◌≤◌, ℕ, zero, suc, ◌+◌, ◌*◌, List, [], ◌∷◌, map, length, take, drop, Option, Some, None, sym, subst, arith}
use Rattle.std.specs.List.{drop-map}
use Rattle.pyd_value.specs.declared.fault.Fault.TheVariants.{Raised}
use Rattle.pyd_value.specs.declared.fault.Kind.TheVariants.{NameError}
use Rattle.pyd_value.specs.declared.operator.CmpOp.{CmpOp}
use Rattle.pyd_tree.specs.declared.expression.Expr.{Expr, out-Expr}
use Rattle.pyd_tree.specs.declared.expression.Expr.TheOpen.{Expr-F}
use Rattle.pyd_tree.specs.declared.expression.Expr.TheFolds.{fold_out-Expr}
use Rattle.pyd_tree.specs.declared.expression.Suffix.{Suffix}
use Rattle.pyd_tree.specs.declared.file.File.{File}
use Rattle.pyd_names.specs.WellFormed.{count_expression, count_suffix, expression_parts}
use Rattle.pyd_ir.specs.declared.arg.Arg.{Arg}
use Rattle.pyd_ir.specs.declared.work.Side.{Side}
use Rattle.pyd_ir.specs.declared.work.Side.TheVariants as side
use Rattle.pyd_translate.specs.Making.{Context}
use Rattle.pyd_translate.specs.Expressions.{counts, operand_counts, conjunction, disjunction, compared, unfolded}
use Rattle.pyd_translate.specs.Sides.{unfolded_links, left_at, left_numbered, unfold_numbered, numbered, side_unfolds}
use Rattle.pyd_translate.specs.Statements.{context}
use Rattle.pyd_translate.specs.Counts.{numbered_items, side_items, SideCount}
use Rattle.pyd_translate.proofs.Induction.{Each}
use Rattle.pyd_translate.proofs.FewNodes.{Few, few_more, pure_few, stop_few}
use Rattle.pyd_translate.proofs.FewInParts.{member_parts, operand_parts, IsFew, parts_level, conjunction_few, disjunction_few, compared_few}
use Rattle.pyd_translate.proofs.FewInExpressions.{expression_few}

-- several from one on have no more parts
members_left : (n : ℕ) (es : List Expr) → member_parts (drop n es) ≤ member_parts es
members_left zero es = omega arith
members_left (suc n) [] = omega arith
members_left (suc n) (e ∷ es) = let less = members_left n es in omega (arith, less)

-- nor have right operands
operands_left : (n : ℕ) (links : List (CmpOp × Expr))
    → operand_parts (drop n links) ≤ operand_parts links
operands_left zero links = omega arith
operands_left (suc n) [] = omega arith
operands_left (suc n) (l ∷ links) = let less = operands_left n links in omega (arith, less)

module _ (file : File) where
  -- all expressions of several
  all_few : (es : List Expr) → Each (IsFew file) es
  all_few [] = tt
  all_few (e ∷ es) = (expression_few file e, all_few es)

  -- all right operands
  operands_few : (links : List (CmpOp × Expr)) → Each (λ l. IsFew file l.1) links
  operands_few [] = tt
  operands_few (l ∷ links) = (expression_few file l.1, operands_few links)

  -- an `and` from a member on
  left_conjunction : (whole m k : ℕ) (es : List Expr) (at : Context)
      → Few (3 * (1 + member_parts es)) 0
      (conjunction whole m (drop m (map (unfolded file) es)) k at)
  left_conjunction whole m k es at =
      let less = members_left m es in
      subst (λ us. Few (3 * (1 + member_parts es)) 0 (conjunction whole m us k at))
      (sym (drop-map (unfolded file) m es))
      (few_more (3 * member_parts (drop m es)) 0 (3 * (1 + member_parts es)) 0
      (conjunction whole m (map (unfolded file) (drop m es)) k at)
      (conjunction_few file whole m (drop m es) (all_few (drop m es)) k at) (omega (arith, less)))

  -- an `or`
  left_disjunction : (whole m k : ℕ) (es : List Expr) (at : Context)
      → Few (3 * (1 + member_parts es)) 0
      (disjunction whole m (drop m (map (unfolded file) es)) k at)
  left_disjunction whole m k es at =
      let less = members_left m es in
      subst (λ us. Few (3 * (1 + member_parts es)) 0 (disjunction whole m us k at))
      (sym (drop-map (unfolded file) m es))
      (few_more (3 * member_parts (drop m es)) 0 (3 * (1 + member_parts es)) 0
      (disjunction whole m (map (unfolded file) (drop m es)) k at)
      (disjunction_few file whole m (drop m es) (all_few (drop m es)) k at) (omega (arith, less)))

  -- a comparison
  left_comparison : (whole m k n : ℕ) (links : List (CmpOp × Expr)) (a : Arg) (at : Context)
      → Few (3 * (1 + (n + operand_parts links))) 0
      (compared whole m (drop m (unfolded_links file links)) k at a)
  left_comparison whole m k n links a at =
      let less = operands_left m links in
      subst (λ us. Few (3 * (1 + (n + operand_parts links))) 0 (compared whole m us k at a))
      (sym (drop-map (λ l. (l.0, unfolded file l.1)) m links))
      (few_more (1 + 3 * operand_parts (drop m links)) 0
      (3 * (1 + (n + operand_parts links))) 0
      (compared whole m (unfolded_links file (drop m links)) k at a)
      (compared_few file whole m (drop m links) (operands_few (drop m links)) k at a)
      (omega (arith, less)))

  -- what is left of an expression, by its first level
  left_few : (y : Expr-F Expr Suffix) (whole m : ℕ) (a : Arg) (at : Context)
      → Few (3 * count_expression (parts_level y)) 0 (left_at file y whole m a at)
  left_few (Expr-F.And members) whole m a at =
      left_conjunction whole m (suc whole + counts (take m (map (unfolded file) members))) members at
  left_few (Expr-F.Or members) whole m a at =
      left_disjunction whole m (suc whole + counts (take m (map (unfolded file) members))) members at
  left_few (Expr-F.Compare first links) whole m a at =
      left_comparison whole m
      (suc whole + (unfolded file first).count
      + operand_counts (take m (unfolded_links file links)))
      (expression_parts first) links a at
  left_few (Expr-F.Lit v) whole m a at =
      few_more 1 0 (3 * count_expression (parts_level (Expr-F.Lit v))) 0
      (left_at file (Expr-F.Lit v) whole m a at) (stop_few Arg at (Raised NameError at.line))
      (omega arith)
  left_few (Expr-F.Name name) whole m a at =
      few_more 1 0 (3 * count_expression (parts_level (Expr-F.Name name))) 0
      (left_at file (Expr-F.Name name) whole m a at) (stop_few Arg at (Raised NameError at.line))
      (omega arith)
  left_few (Expr-F.Tuple members) whole m a at =
      few_more 1 0 (3 * count_expression (parts_level (Expr-F.Tuple members))) 0
      (left_at file (Expr-F.Tuple members) whole m a at) (stop_few Arg at (Raised NameError at.line))
      (omega arith)
  left_few (Expr-F.Unary op e) whole m a at =
      few_more 1 0 (3 * count_expression (parts_level (Expr-F.Unary op e))) 0
      (left_at file (Expr-F.Unary op e) whole m a at) (stop_few Arg at (Raised NameError at.line))
      (omega arith)
  left_few (Expr-F.Chain first links) whole m a at =
      few_more 1 0 (3 * count_expression (parts_level (Expr-F.Chain first links))) 0
      (left_at file (Expr-F.Chain first links) whole m a at) (stop_few Arg at (Raised NameError at.line))
      (omega arith)
  left_few (Expr-F.Power base exponent) whole m a at =
      few_more 1 0 (3 * count_expression (parts_level (Expr-F.Power base exponent))) 0
      (left_at file (Expr-F.Power base exponent) whole m a at) (stop_few Arg at (Raised NameError at.line))
      (omega arith)
  left_few (Expr-F.If test first second) whole m a at =
      few_more 1 0 (3 * count_expression (parts_level (Expr-F.If test first second))) 0
      (left_at file (Expr-F.If test first second) whole m a at) (stop_few Arg at (Raised NameError at.line))
      (omega arith)
  left_few (Expr-F.Call name args) whole m a at =
      few_more 1 0 (3 * count_expression (parts_level (Expr-F.Call name args))) 0
      (left_at file (Expr-F.Call name args) whole m a at) (stop_few Arg at (Raised NameError at.line))
      (omega arith)
  left_few (Expr-F.Suffixed base suffixes) whole m a at =
      few_more 1 0 (3 * count_expression (parts_level (Expr-F.Suffixed base suffixes))) 0
      (left_at file (Expr-F.Suffixed base suffixes) whole m a at) (stop_few Arg at (Raised NameError at.line))
      (omega arith)

  -- an expression that a number may name
  numbered_few : (e : Option Expr) (k : ℕ) (at : Context)
      → Few (3 * numbered_items e) 0 (unfold_numbered file e k at)
  numbered_few None k at =
      few_more 1 0 3 0 (unfold_numbered file None k at) (stop_few Arg at (Raised NameError at.line))
      (omega arith)
  numbered_few (Some e) k at =
      few_more (3 * expression_parts e) 1 (3 * expression_parts e) 0
      ((unfolded file e).build k at) (expression_few file e k at) (omega arith)

  -- what is left of one that a number may name
  left_numbered_few : (e : Option Expr) (k m : ℕ) (a : Arg) (at : Context)
      → Few (3 * numbered_items e) 0 (left_numbered file e k m a at)
  left_numbered_few None k m a at =
      few_more 1 0 3 0 (left_numbered file None k m a at)
      (stop_few Arg at (Raised NameError at.line)) (omega arith)
  left_numbered_few (Some e) k m a at =
      subst (λ n. Few (3 * n) 0 (left_numbered file (Some e) k m a at))
      (sym (fold_out-Expr ℕ ℕ count_expression count_suffix e)) (left_few (out-Expr e) k m a at)

  -- each side
  each_side_few : (s : Side) (at : Context)
      → Few (3 * side_items file at.routine s) 0 (side_unfolds file s at)
  unfolding side_unfolds
  each_side_few (side.Arg a) at = pure_few 0 0 a (omega arith)
  each_side_few (side.Expr k) at = numbered_few (numbered file at k) k at
  each_side_few (side.Tail k m a) at = left_numbered_few (numbered file at k) k m a at

-- a side has 3 nodes for each item at most
pub side_few : SideCount
side_few file routine depth line s ids env =
    let few : Few (3 * side_items file routine s) 0
    (side_unfolds file s (context routine depth line env)) =
    each_side_few file s (context routine depth line env) in
    let count : length (side_unfolds file s (context routine depth line env) ids).nodes + 0
    ≤ 3 * side_items file routine s = few ids in
    omega (arith, count)
