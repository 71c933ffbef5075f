-- The composites of each expression, and of each side of a choice, have nested rests: they have none.
use Rattle.std.proofs.Common.{ℕ, suc, ◌+◌, List, [], ◌∷◌, map, drop, take, Option, Some, None, sym, subst}
use Rattle.pyd_value.specs.declared.fault.Fault.TheVariants.{Raised}
use Rattle.pyd_value.specs.declared.fault.Kind.TheVariants.{NameError}
use Rattle.pyd_value.specs.declared.operator.CmpOp.{CmpOp}
use Rattle.pyd_tree.specs.declared.expression.Expr.{Expr, out-Expr}
use Rattle.pyd_tree.specs.declared.expression.Expr.TheOpen.{Expr-F, Suffix-F}
use Rattle.pyd_tree.specs.declared.expression.Suffix.{Suffix, out-Suffix}
use Rattle.pyd_tree.specs.declared.file.File.{File}
use Rattle.pyd_ir.specs.declared.arg.Arg.{Arg}
use Rattle.pyd_ir.specs.declared.arg.Arg.TheVariants.{Known}
use Rattle.pyd_ir.specs.declared.work.Side.{Side}
use Rattle.pyd_ir.specs.declared.work.Side.TheVariants as side
use Rattle.pyd_translate.specs.Making.{Context}
use Rattle.pyd_translate.specs.Expressions.{Unfolded, each, bound, counts, operand_counts, maybe_count, suffix_step, resolution_at, name_operand, build_parts, unfolded, unfolded_suffix}
use Rattle.pyd_translate.proofs.Induction.{Each, Maybe, InBrackets, InParts, by_parts}
use Rattle.pyd_translate.proofs.Numbered.{unfolded_level, unfolded_brackets, unfolded_out, unfolded_suffix_out}
use Rattle.pyd_translate.specs.Sides.{unfolded_links, left_at, left_numbered, unfold_numbered, numbered, side_unfolds}
use Rattle.pyd_translate.specs.Statements.{context}
use Rattle.pyd_translate.specs.Nested.{SideNested}
use Rattle.pyd_translate.proofs.UnfoldedOrder.{each_map, each_operand_map, each_drop}
use Rattle.pyd_translate.proofs.NestedNodes.{Nests, then_nests, pure_nests, value_nests, stop_nests, name_nests, call_nests, IsNests, IsSuffixNests, each_nests, bound_nests, chained_nests, suffixed_nests, conjunction_nests, disjunction_nests, compared_nests}

module _ (file : File) where
  -- an expression
  abbrev OfExpression : Expr → Type 0
  OfExpression e = IsNests file (unfolded file e)

  -- the bounds of a slice
  slice_nests : (low high : Option Unfolded) → Maybe (IsNests file) low → Maybe (IsNests file) high
      → IsSuffixNests file (suffix_step (Suffix-F.Slice low high))
  slice_nests low high p q k at a =
      then_nests file (bound low k at) _ (bound_nests file low p k at)
      (λ l. then_nests file (bound high (k + maybe_count low) at) _
      (bound_nests file high q (k + maybe_count low) at) (λ h. value_nests file at _ tt))

  -- one level of brackets
  brackets_nests : (y : Suffix-F Expr Suffix) → InBrackets OfExpression y
      → IsSuffixNests file (suffix_step (unfolded_brackets file y))
  brackets_nests (Suffix-F.Index index) p k at a =
      then_nests file ((unfolded file index).build k at) _ (p k at) (λ i. value_nests file at _ tt)
  brackets_nests (Suffix-F.Slice None None) p k at a = slice_nests None None tt tt k at a
  brackets_nests (Suffix-F.Slice None (Some high)) p k at a =
      slice_nests None (Some (unfolded file high)) tt p.1 k at a
  brackets_nests (Suffix-F.Slice (Some low) None) p k at a =
      slice_nests (Some (unfolded file low)) None p.0 tt k at a
  brackets_nests (Suffix-F.Slice (Some low) (Some high)) p k at a =
      slice_nests (Some (unfolded file low)) (Some (unfolded file high)) p.0 p.1 k at a

  -- all brackets
  suffixes_nest : (ss : List Suffix) → Each (λ s. InBrackets OfExpression (out-Suffix s)) ss
      → Each (IsSuffixNests file) (map (unfolded_suffix file) ss)
  suffixes_nest [] p = tt
  suffixes_nest (s ∷ ss) p = (
    subst (IsSuffixNests file) (sym (unfolded_suffix_out file s))
        (brackets_nests (out-Suffix s) p.0),
    suffixes_nest ss p.1,
  )

  -- one level of an expression
  level_nests : (y : Expr-F Expr Suffix) → InParts OfExpression y → (whole k : ℕ) (at : Context)
      → Nests file (build_parts file (unfolded_level file y) whole k at)
  level_nests (Expr-F.Lit v) p whole k at = pure_nests file (Known v)
  level_nests (Expr-F.Name name) p whole k at = name_nests file name at
  level_nests (Expr-F.Tuple members) p whole k at =
      then_nests file (each (map (unfolded file) members) k at) _
      (each_nests file (map (unfolded file) members)
      (each_map (IsNests file) (unfolded file) members p) k at) (λ args. value_nests file at _ tt)
  level_nests (Expr-F.Unary op e) p whole k at =
      then_nests file ((unfolded file e).build k at) _ (p k at) (λ a. value_nests file at _ tt)
  level_nests (Expr-F.Chain first links) p whole k at =
      then_nests file ((unfolded file first).build k at) _ (p.0 k at)
      (λ a. chained_nests file (map (λ l. (l.0, unfolded file l.1)) links)
      (each_operand_map (IsNests file) (unfolded file) links p.1)
      (k + (unfolded file first).count) at a)
  level_nests (Expr-F.Power base exponent) p whole k at =
      then_nests file ((unfolded file base).build k at) _ (p.0 k at)
      (λ a. then_nests file ((unfolded file exponent).build (k + (unfolded file base).count) at) _
      (p.1 (k + (unfolded file base).count) at) (λ b. value_nests file at _ tt))
  level_nests (Expr-F.And members) p whole k at =
      conjunction_nests file whole 0 (map (unfolded file) members)
      (each_map (IsNests file) (unfolded file) members p) k at
  level_nests (Expr-F.Or members) p whole k at =
      disjunction_nests file whole 0 (map (unfolded file) members)
      (each_map (IsNests file) (unfolded file) members p) k at
  level_nests (Expr-F.Compare first links) p whole k at =
      then_nests file ((unfolded file first).build k at) _ (p.0 k at)
      (λ a. compared_nests file whole 0 (map (λ l. (l.0, unfolded file l.1)) links)
      (each_operand_map (IsNests file) (unfolded file) links p.1)
      (k + (unfolded file first).count) at a)
  level_nests (Expr-F.If test first second) p whole k at =
      then_nests file ((unfolded file test).build (k + (unfolded file first).count) at) _
      (p.0 (k + (unfolded file first).count) at) (λ t. value_nests file at _ tt)
  level_nests (Expr-F.Call name args) p whole k at =
      call_nests file (resolution_at file at name) at (name_operand file name at)
      (each (map (unfolded file) args) k at) (name_nests file name at)
      (each_nests file (map (unfolded file) args)
      (each_map (IsNests file) (unfolded file) args p) k at)
  level_nests (Expr-F.Suffixed base suffixes) p whole k at =
      then_nests file ((unfolded file base).build k at) _ (p.0 k at)
      (λ a. suffixed_nests file (map (unfolded_suffix file) suffixes) (suffixes_nest suffixes p.1)
      (k + (unfolded file base).count) at a)

  -- each expression
  pub expression_nests : (e : Expr) → IsNests file (unfolded file e)
  expression_nests =
      by_parts OfExpression (λ e p. subst (IsNests file) (sym (unfolded_out file e))
      (λ k at. level_nests (out-Expr e) p k (suc k) at))

  -- several expressions
  members_nest : (es : List Expr) → Each (IsNests file) (map (unfolded file) es)
  members_nest [] = tt
  members_nest (e ∷ es) = (expression_nests e, members_nest es)

  -- right operands
  links_nest : (links : List (CmpOp × Expr)) → Each (λ l. IsNests file l.1) (unfolded_links file links)
  links_nest [] = tt
  links_nest (l ∷ links) = (expression_nests l.1, links_nest links)

  -- what is left of an expression, by its first level
  left_nests : (y : Expr-F Expr Suffix) (whole m : ℕ) (a : Arg) (at : Context)
      → Nests file (left_at file y whole m a at)
  left_nests (Expr-F.And members) whole m a at =
      conjunction_nests file whole m (drop m (map (unfolded file) members))
      (each_drop (IsNests file) m (map (unfolded file) members) (members_nest members))
      (suc whole + counts (take m (map (unfolded file) members))) at
  left_nests (Expr-F.Or members) whole m a at =
      disjunction_nests file whole m (drop m (map (unfolded file) members))
      (each_drop (IsNests file) m (map (unfolded file) members) (members_nest members))
      (suc whole + counts (take m (map (unfolded file) members))) at
  left_nests (Expr-F.Compare first links) whole m a at =
      compared_nests file whole m (drop m (unfolded_links file links))
      (each_drop (λ l. IsNests file l.1) m (unfolded_links file links) (links_nest links))
      (suc whole + (unfolded file first).count
      + operand_counts (take m (unfolded_links file links))) at a
  left_nests (Expr-F.Lit v) whole m a at =
      stop_nests file Arg at (Raised NameError at.line)
  left_nests (Expr-F.Name name) whole m a at =
      stop_nests file Arg at (Raised NameError at.line)
  left_nests (Expr-F.Tuple members) whole m a at =
      stop_nests file Arg at (Raised NameError at.line)
  left_nests (Expr-F.Unary op e) whole m a at =
      stop_nests file Arg at (Raised NameError at.line)
  left_nests (Expr-F.Chain first links) whole m a at =
      stop_nests file Arg at (Raised NameError at.line)
  left_nests (Expr-F.Power base exponent) whole m a at =
      stop_nests file Arg at (Raised NameError at.line)
  left_nests (Expr-F.If test first second) whole m a at =
      stop_nests file Arg at (Raised NameError at.line)
  left_nests (Expr-F.Call name args) whole m a at =
      stop_nests file Arg at (Raised NameError at.line)
  left_nests (Expr-F.Suffixed base suffixes) whole m a at =
      stop_nests file Arg at (Raised NameError at.line)

  -- an expression that a number may name
  numbered_nests : (e : Option Expr) (k : ℕ) (at : Context) → Nests file (unfold_numbered file e k at)
  numbered_nests None k at = stop_nests file Arg at (Raised NameError at.line)
  numbered_nests (Some e) k at = expression_nests e k at

  -- what is left of one that a number may name
  left_numbered_nests : (e : Option Expr) (k m : ℕ) (a : Arg) (at : Context)
      → Nests file (left_numbered file e k m a at)
  left_numbered_nests None k m a at = stop_nests file Arg at (Raised NameError at.line)
  left_numbered_nests (Some e) k m a at = left_nests (out-Expr e) k m a at

  -- each side
  each_side_nests : (s : Side) (at : Context) → Nests file (side_unfolds file s at)
  unfolding side_unfolds
  each_side_nests (side.Arg a) at = pure_nests file a
  each_side_nests (side.Expr k) at = numbered_nests (numbered file at k) k at
  each_side_nests (side.Tail k m a) at = left_numbered_nests (numbered file at k) k m a at

-- a side has no composite with a rest
pub side_nested : SideNested
side_nested file routine depth line s ids env =
    each_side_nests file s (context routine depth line env) ids
