-- Each expression has 3 nodes for each expression and suffix in it at most.
use Rattle.std.proofs.Common.{ℕ, suc, ◌+◌, ◌*◌, [], ◌∷◌, map, sym, subst, arith}
use Rattle.pyd_value.specs.declared.operator.BinOp.TheVariants.{Pow}
use Rattle.pyd_tree.specs.declared.expression.Expr.{Expr, out-Expr}
use Rattle.pyd_tree.specs.declared.expression.Expr.TheOpen.{Expr-F}
use Rattle.pyd_tree.specs.declared.expression.Expr.TheFolds.{fold_out-Expr}
use Rattle.pyd_tree.specs.declared.expression.Suffix.{Suffix}
use Rattle.pyd_tree.specs.declared.file.File.{File}
use Rattle.pyd_names.specs.WellFormed.{count_expression, count_suffix, expression_parts}
use Rattle.pyd_ir.specs.declared.arg.Arg.TheVariants.{Known}
use Rattle.pyd_ir.specs.declared.code.OpCode.TheVariants as code
use Rattle.pyd_ir.specs.declared.work.Side.TheVariants as side
use Rattle.pyd_translate.specs.Making.{Context, ◌>>>◌}
use Rattle.pyd_translate.specs.Expressions.{Unfolded, operator, each, chained, suffixed, choose, conjunction, disjunction, compared, resolution_at, name_operand, call_as, build_parts, unfolded, unfolded_suffix}
use Rattle.pyd_translate.proofs.Induction.{InParts, by_parts}
use Rattle.pyd_translate.proofs.Numbered.{unfolded_level, unfolded_out}
use Rattle.pyd_translate.proofs.FewNodes.{Few, then_few, few_more, pure_few}
use Rattle.pyd_translate.proofs.FewInNames.{operator_few, choose_few, name_few, call_few}
use Rattle.pyd_translate.proofs.FewInParts.{member_parts, operand_parts, all_suffix_parts, IsFew, parts_level, each_few, chained_few, suffixed_few, suffixes_few, conjunction_few, disjunction_few, compared_few}

module _ (file : File) where
  -- one level of an expression
  level_few : (y : Expr-F Expr Suffix) → InParts (IsFew file) y → (whole k : ℕ) (at : Context)
      → Few (3 * count_expression (parts_level y)) 1
      (build_parts file (unfolded_level file y) whole k at)
  level_few (Expr-F.Lit v) p whole k at = pure_few 3 1 (Known v) (omega arith)
  level_few (Expr-F.Name name) p whole k at =
      few_more 1 0 3 1 (name_operand file name at) (name_few file name at) (omega arith)
  level_few (Expr-F.Tuple members) p whole k at =
      then_few (3 * member_parts members) 0 1 0 (3 * (1 + member_parts members)) 1
      (each (map (unfolded file) members) k at) (λ args. operator code.Tuple args at)
      (each_few file members p k at) (λ args. operator_few code.Tuple args at)
      (omega arith) (omega arith)
  level_few (Expr-F.Unary op e) p whole k at =
      then_few (3 * expression_parts e) 1 1 0 (3 * (1 + expression_parts e)) 1
      ((unfolded file e).build k at) (λ a. operator (code.Unary op) (a ∷ []) at) (p k at)
      (λ a. operator_few (code.Unary op) (a ∷ []) at) (omega arith) (omega arith)
  level_few (Expr-F.Chain first links) p whole k at =
      then_few (3 * expression_parts first) 1 (3 * operand_parts links) 0
      (3 * (1 + (expression_parts first + operand_parts links))) 1
      ((unfolded file first).build k at)
      (λ a. chained (map (λ l. (l.0, unfolded file l.1)) links) (k + (unfolded file first).count)
      at a)
      (p.0 k at)
      (λ a. chained_few file links p.1 (k + (unfolded file first).count) at a)
      (omega arith) (omega arith)
  level_few (Expr-F.Power base exponent) p whole k at =
      then_few (3 * expression_parts base) 1 (3 * expression_parts exponent) 0
      (3 * (1 + (expression_parts base + expression_parts exponent))) 1
      ((unfolded file base).build k at)
      (λ a. (unfolded file exponent).build (k + (unfolded file base).count) at
      >>> (λ b. operator (code.Binary Pow) (a ∷ b ∷ []) at))
      (p.0 k at)
      (λ a. then_few (3 * expression_parts exponent) 1 1 0 (3 * expression_parts exponent) 0
      ((unfolded file exponent).build (k + (unfolded file base).count) at)
      (λ b. operator (code.Binary Pow) (a ∷ b ∷ []) at)
      (p.1 (k + (unfolded file base).count) at)
      (λ b. operator_few (code.Binary Pow) (a ∷ b ∷ []) at) (omega arith) (omega arith))
      (omega arith) (omega arith)
  level_few (Expr-F.And members) p whole k at =
      few_more (3 * member_parts members) 0 (3 * (1 + member_parts members)) 1
      (conjunction whole 0 (map (unfolded file) members) k at)
      (conjunction_few file whole 0 members p k at) (omega arith)
  level_few (Expr-F.Or members) p whole k at =
      few_more (3 * member_parts members) 0 (3 * (1 + member_parts members)) 1
      (disjunction whole 0 (map (unfolded file) members) k at)
      (disjunction_few file whole 0 members p k at) (omega arith)
  level_few (Expr-F.Compare first links) p whole k at =
      then_few (3 * expression_parts first) 1 (1 + 3 * operand_parts links) 0
      (3 * (1 + (expression_parts first + operand_parts links))) 1
      ((unfolded file first).build k at)
      (λ a. compared whole 0 (map (λ l. (l.0, unfolded file l.1)) links)
      (k + (unfolded file first).count) at a)
      (p.0 k at)
      (λ a. compared_few file whole 0 links p.1 (k + (unfolded file first).count) at a)
      (omega arith) (omega arith)
  level_few (Expr-F.If test first second) p whole k at =
      then_few (3 * expression_parts test) 1 1 0
      (3 * (1 + (expression_parts test + (expression_parts first + expression_parts second)))) 1
      ((unfolded file test).build (k + (unfolded file first).count) at)
      (λ t. choose at t (side.Expr k)
      (side.Expr (k + (unfolded file first).count + (unfolded file test).count)))
      (p.0 (k + (unfolded file first).count) at)
      (λ t. choose_few at t (side.Expr k)
      (side.Expr (k + (unfolded file first).count + (unfolded file test).count)))
      (omega arith) (omega arith)
  level_few (Expr-F.Call name args) p whole k at =
      few_more (2 + 3 * member_parts args) 0 (3 * (1 + member_parts args)) 1
      (call_as file (resolution_at file at name) at (name_operand file name at)
      (each (map (unfolded file) args) k at))
      (call_few file (resolution_at file at name) at (name_operand file name at)
      (each (map (unfolded file) args) k at) (3 * member_parts args) (name_few file name at)
      (each_few file args p k at)) (omega arith)
  level_few (Expr-F.Suffixed base suffixes) p whole k at =
      then_few (3 * expression_parts base) 1 (3 * all_suffix_parts suffixes) 0
      (3 * (1 + (expression_parts base + all_suffix_parts suffixes))) 1
      ((unfolded file base).build k at)
      (λ a. suffixed (map (unfolded_suffix file) suffixes) (k + (unfolded file base).count) at a)
      (p.0 k at)
      (λ a. suffixed_few file suffixes (suffixes_few file suffixes p.1) (k + (unfolded file base).count) at a)
      (omega arith) (omega arith)

  -- each expression
  pub expression_few : (e : Expr) → IsFew file e
  expression_few =
      by_parts (IsFew file) (λ e p k at.
      subst (λ n. Few (3 * n) 1 ((unfolded file e).build k at))
      (sym (fold_out-Expr ℕ ℕ count_expression count_suffix e))
      (subst (λ (u : Unfolded). Few (3 * count_expression (parts_level (out-Expr e))) 1 (u.build k at))
      (sym (unfolded_out file e)) (level_few (out-Expr e) p k (suc k) at)))
