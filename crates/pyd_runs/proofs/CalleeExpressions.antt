-- The nodes of each expression, and of each side of a choice, have their callees.
use Rattle.std.proofs.Common.{ℕ, suc, ◌+◌, List, [], ◌∷◌, map, drop, take, Option, Some, None, sym, subst}
use Rattle.pyd_value.specs.declared.fault.Fault.TheVariants.{Raised}
use Rattle.pyd_value.specs.declared.fault.Kind.TheVariants.{NameError}
use Rattle.pyd_value.specs.declared.operator.CmpOp.{CmpOp}
use Rattle.pyd_tree.specs.declared.expression.Expr.{Expr, out-Expr}
use Rattle.pyd_tree.specs.declared.expression.Expr.TheOpen.{Expr-F, Suffix-F}
use Rattle.pyd_tree.specs.declared.expression.Suffix.{Suffix, out-Suffix}
use Rattle.pyd_tree.specs.declared.file.File.{File}
use Rattle.pyd_ir.specs.declared.arg.Arg.{Arg}
use Rattle.pyd_ir.specs.declared.arg.Arg.TheVariants.{Known}
use Rattle.pyd_ir.specs.declared.work.Side.{Side}
use Rattle.pyd_ir.specs.declared.work.Side.TheVariants as side
use Rattle.pyd_translate.specs.Making.{Context}
use Rattle.pyd_translate.specs.Expressions.{Unfolded, each, bound, counts, operand_counts, maybe_count, suffix_step, resolution_at, name_operand, build_parts, unfolded, unfolded_suffix}
use Rattle.pyd_translate.proofs.Induction.{Each, Maybe, InBrackets, InParts, by_parts}
use Rattle.pyd_translate.proofs.Numbered.{unfolded_level, unfolded_brackets, unfolded_out, unfolded_suffix_out}
use Rattle.pyd_translate.specs.Sides.{unfolded_links, left_at, left_numbered, unfold_numbered, numbered, side_unfolds}
use Rattle.pyd_translate.proofs.UnfoldedOrder.{each_map, each_operand_map, each_drop}
use Rattle.pyd_runs.proofs.CalleeNodes.{Callees, then_callees, pure_callees, value_callees, stop_callees, name_callees, call_callees, OfUnfolded, OfBrackets, each_callees, bound_callees, chained_callees, suffixed_callees, conjunction_callees, disjunction_callees, compared_callees}

module _ (file : File) where
  -- an expression
  abbrev OfExpression : Expr → Type 0
  OfExpression e = OfUnfolded file (unfolded file e)

  -- the bounds of a slice
  slice_callees : (low high : Option Unfolded) → Maybe (OfUnfolded file) low
      → Maybe (OfUnfolded file) high
      → OfBrackets file (suffix_step (Suffix-F.Slice low high))
  slice_callees low high p q k at a =
      then_callees file (bound low k at) _ (bound_callees file low p k at)
      (λ l. then_callees file (bound high (k + maybe_count low) at) _
      (bound_callees file high q (k + maybe_count low) at) (λ h. value_callees file at _ tt))

  -- one level of brackets
  brackets_callees : (y : Suffix-F Expr Suffix) → InBrackets OfExpression y
      → OfBrackets file (suffix_step (unfolded_brackets file y))
  brackets_callees (Suffix-F.Index index) p k at a =
      then_callees file ((unfolded file index).build k at) _ (p k at) (λ i. value_callees file at _ tt)
  brackets_callees (Suffix-F.Slice None None) p k at a = slice_callees None None tt tt k at a
  brackets_callees (Suffix-F.Slice None (Some high)) p k at a =
      slice_callees None (Some (unfolded file high)) tt p.1 k at a
  brackets_callees (Suffix-F.Slice (Some low) None) p k at a =
      slice_callees (Some (unfolded file low)) None p.0 tt k at a
  brackets_callees (Suffix-F.Slice (Some low) (Some high)) p k at a =
      slice_callees (Some (unfolded file low)) (Some (unfolded file high)) p.0 p.1 k at a

  -- all brackets
  suffixes_callees : (ss : List Suffix) → Each (λ s. InBrackets OfExpression (out-Suffix s)) ss
      → Each (OfBrackets file) (map (unfolded_suffix file) ss)
  suffixes_callees [] p = tt
  suffixes_callees (s ∷ ss) p = (
    subst (OfBrackets file) (sym (unfolded_suffix_out file s))
        (brackets_callees (out-Suffix s) p.0),
    suffixes_callees ss p.1,
  )

  -- one level of an expression
  level_callees : (y : Expr-F Expr Suffix) → InParts OfExpression y → (whole k : ℕ) (at : Context)
      → Callees file (build_parts file (unfolded_level file y) whole k at)
  level_callees (Expr-F.Lit v) p whole k at = pure_callees file (Known v)
  level_callees (Expr-F.Name name) p whole k at = name_callees file name at
  level_callees (Expr-F.Tuple members) p whole k at =
      then_callees file (each (map (unfolded file) members) k at) _
      (each_callees file (map (unfolded file) members)
      (each_map (OfUnfolded file) (unfolded file) members p) k at) (λ args. value_callees file at _ tt)
  level_callees (Expr-F.Unary op e) p whole k at =
      then_callees file ((unfolded file e).build k at) _ (p k at) (λ a. value_callees file at _ tt)
  level_callees (Expr-F.Chain first links) p whole k at =
      then_callees file ((unfolded file first).build k at) _ (p.0 k at)
      (λ a. chained_callees file (map (λ l. (l.0, unfolded file l.1)) links)
      (each_operand_map (OfUnfolded file) (unfolded file) links p.1)
      (k + (unfolded file first).count) at a)
  level_callees (Expr-F.Power base exponent) p whole k at =
      then_callees file ((unfolded file base).build k at) _ (p.0 k at)
      (λ a. then_callees file ((unfolded file exponent).build (k + (unfolded file base).count) at) _
      (p.1 (k + (unfolded file base).count) at) (λ b. value_callees file at _ tt))
  level_callees (Expr-F.And members) p whole k at =
      conjunction_callees file whole 0 (map (unfolded file) members)
      (each_map (OfUnfolded file) (unfolded file) members p) k at
  level_callees (Expr-F.Or members) p whole k at =
      disjunction_callees file whole 0 (map (unfolded file) members)
      (each_map (OfUnfolded file) (unfolded file) members p) k at
  level_callees (Expr-F.Compare first links) p whole k at =
      then_callees file ((unfolded file first).build k at) _ (p.0 k at)
      (λ a. compared_callees file whole 0 (map (λ l. (l.0, unfolded file l.1)) links)
      (each_operand_map (OfUnfolded file) (unfolded file) links p.1)
      (k + (unfolded file first).count) at a)
  level_callees (Expr-F.If test first second) p whole k at =
      then_callees file ((unfolded file test).build (k + (unfolded file first).count) at) _
      (p.0 (k + (unfolded file first).count) at) (λ t. value_callees file at _ tt)
  level_callees (Expr-F.Call name args) p whole k at =
      call_callees file (resolution_at file at name) at (name_operand file name at)
      (each (map (unfolded file) args) k at) (name_callees file name at)
      (each_callees file (map (unfolded file) args)
      (each_map (OfUnfolded file) (unfolded file) args p) k at)
  level_callees (Expr-F.Suffixed base suffixes) p whole k at =
      then_callees file ((unfolded file base).build k at) _ (p.0 k at)
      (λ a. suffixed_callees file (map (unfolded_suffix file) suffixes) (suffixes_callees suffixes p.1)
      (k + (unfolded file base).count) at a)

  -- each expression
  pub expression_callees : (e : Expr) → OfUnfolded file (unfolded file e)
  expression_callees =
      by_parts OfExpression (λ e p. subst (OfUnfolded file) (sym (unfolded_out file e))
      (λ k at. level_callees (out-Expr e) p k (suc k) at))

  -- several expressions
  members_callees : (es : List Expr) → Each (OfUnfolded file) (map (unfolded file) es)
  members_callees [] = tt
  members_callees (e ∷ es) = (expression_callees e, members_callees es)

  -- right operands
  links_callees : (links : List (CmpOp × Expr))
      → Each (λ l. OfUnfolded file l.1) (unfolded_links file links)
  links_callees [] = tt
  links_callees (l ∷ links) = (expression_callees l.1, links_callees links)

  -- what is left of an expression, by its first level
  left_callees : (y : Expr-F Expr Suffix) (whole m : ℕ) (a : Arg) (at : Context)
      → Callees file (left_at file y whole m a at)
  left_callees (Expr-F.And members) whole m a at =
      conjunction_callees file whole m (drop m (map (unfolded file) members))
      (each_drop (OfUnfolded file) m (map (unfolded file) members) (members_callees members))
      (suc whole + counts (take m (map (unfolded file) members))) at
  left_callees (Expr-F.Or members) whole m a at =
      disjunction_callees file whole m (drop m (map (unfolded file) members))
      (each_drop (OfUnfolded file) m (map (unfolded file) members) (members_callees members))
      (suc whole + counts (take m (map (unfolded file) members))) at
  left_callees (Expr-F.Compare first links) whole m a at =
      compared_callees file whole m (drop m (unfolded_links file links))
      (each_drop (λ l. OfUnfolded file l.1) m (unfolded_links file links) (links_callees links))
      (suc whole + (unfolded file first).count
      + operand_counts (take m (unfolded_links file links))) at a
  left_callees (Expr-F.Lit v) whole m a at =
      stop_callees file Arg at (Raised NameError at.line)
  left_callees (Expr-F.Name name) whole m a at =
      stop_callees file Arg at (Raised NameError at.line)
  left_callees (Expr-F.Tuple members) whole m a at =
      stop_callees file Arg at (Raised NameError at.line)
  left_callees (Expr-F.Unary op e) whole m a at =
      stop_callees file Arg at (Raised NameError at.line)
  left_callees (Expr-F.Chain first links) whole m a at =
      stop_callees file Arg at (Raised NameError at.line)
  left_callees (Expr-F.Power base exponent) whole m a at =
      stop_callees file Arg at (Raised NameError at.line)
  left_callees (Expr-F.If test first second) whole m a at =
      stop_callees file Arg at (Raised NameError at.line)
  left_callees (Expr-F.Call name args) whole m a at =
      stop_callees file Arg at (Raised NameError at.line)
  left_callees (Expr-F.Suffixed base suffixes) whole m a at =
      stop_callees file Arg at (Raised NameError at.line)

  -- an expression that a number may name
  numbered_callees : (e : Option Expr) (k : ℕ) (at : Context) → Callees file (unfold_numbered file e k at)
  numbered_callees None k at = stop_callees file Arg at (Raised NameError at.line)
  numbered_callees (Some e) k at = expression_callees e k at

  -- what is left of one that a number may name
  left_numbered_callees : (e : Option Expr) (k m : ℕ) (a : Arg) (at : Context)
      → Callees file (left_numbered file e k m a at)
  left_numbered_callees None k m a at = stop_callees file Arg at (Raised NameError at.line)
  left_numbered_callees (Some e) k m a at = left_callees (out-Expr e) k m a at

  -- each side
  pub side_callees : (s : Side) (at : Context) → Callees file (side_unfolds file s at)
  unfolding side_unfolds
  side_callees (side.Arg a) at = pure_callees file a
  side_callees (side.Expr k) at = numbered_callees (numbered file at k) k at
  side_callees (side.Tail k m a) at = left_numbered_callees (numbered file at k) k m a at
