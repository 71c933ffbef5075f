-- The nodes of one level of an expression, by the nodes of its parts.
use Rattle.std.proofs.Common.{◌≡◌, ℕ, List, map, Some, None, sym, ap, ◌∙◌}
use Rattle.pyd_value.specs.declared.value.Value.{Value}
use Rattle.pyd_value.specs.declared.operator.BinOp.{BinOp}
use Rattle.pyd_value.specs.declared.operator.CmpOp.{CmpOp}
use Rattle.pyd_value.specs.declared.operator.UnOp.{UnOp}
use Rattle.pyd_tree.specs.declared.expression.Expr.{Expr}
use Rattle.pyd_tree.specs.declared.expression.Expr.TheOpen.{Expr-F, Suffix-F}
use Rattle.pyd_tree.specs.declared.expression.Expr.TheFolds.{fold-roll-Expr, fold-roll-Suffix}
use Rattle.pyd_tree.specs.declared.expression.Expr.TheVariants as expression
use Rattle.pyd_tree.specs.declared.expression.Suffix.{Suffix}
use Rattle.pyd_tree.specs.declared.expression.Suffix.TheVariants as suffix
use Rattle.pyd_tree.specs.declared.file.File.{File}
use Rattle.pyd_translate.specs.Expressions.{Unfolded, UnfoldedSuffix, unfolded, unfolded_suffix, unfold_step, suffix_step}

module _ (file : File) where
  -- a literal
  pub literal : (v : Value)
      → unfolded file (expression.Lit v)
      ≡ unfold_step file (Expr-F.Lit v)
  unfolding unfolded unfolded_suffix
  literal v =
      ap (unfolded file) (sym (expression.rolls-Lit v))
      ∙ fold-roll-Expr Unfolded UnfoldedSuffix (unfold_step file) suffix_step (Expr-F.Lit v)

  -- a name
  pub name : (x : List ℕ)
      → unfolded file (expression.Name x)
      ≡ unfold_step file (Expr-F.Name x)
  unfolding unfolded unfolded_suffix
  name x =
      ap (unfolded file) (sym (expression.rolls-Name x))
      ∙ fold-roll-Expr Unfolded UnfoldedSuffix (unfold_step file) suffix_step (Expr-F.Name x)

  -- a tuple
  pub tuple : (es : List Expr)
      → unfolded file (expression.Tuple es)
      ≡ unfold_step file (Expr-F.Tuple (map (unfolded file) es))
  unfolding unfolded unfolded_suffix
  tuple es =
      ap (unfolded file) (sym (expression.rolls-Tuple es))
      ∙ fold-roll-Expr Unfolded UnfoldedSuffix (unfold_step file) suffix_step (Expr-F.Tuple es)

  -- an operator before its operand
  pub unary : (op : UnOp) (e : Expr)
      → unfolded file (expression.Unary op e)
      ≡ unfold_step file (Expr-F.Unary op (unfolded file e))
  unfolding unfolded unfolded_suffix
  unary op e =
      ap (unfolded file) (sym (expression.rolls-Unary op e))
      ∙ fold-roll-Expr Unfolded UnfoldedSuffix (unfold_step file) suffix_step (Expr-F.Unary op e)

  -- operators of one level
  pub chain : (first : Expr) (links : List (BinOp × Expr))
      → unfolded file (expression.Chain first links)
      ≡ unfold_step file
      (Expr-F.Chain (unfolded file first) (map (λ l. (l.0, unfolded file l.1)) links))
  unfolding unfolded unfolded_suffix
  chain first links =
      ap (unfolded file) (sym (expression.rolls-Chain first links))
      ∙ fold-roll-Expr Unfolded UnfoldedSuffix (unfold_step file) suffix_step (Expr-F.Chain first links)

  -- a power
  pub power : (base exponent : Expr)
      → unfolded file (expression.Power base exponent)
      ≡ unfold_step file (Expr-F.Power (unfolded file base) (unfolded file exponent))
  unfolding unfolded unfolded_suffix
  power base exponent =
      ap (unfolded file) (sym (expression.rolls-Power base exponent))
      ∙ fold-roll-Expr Unfolded UnfoldedSuffix (unfold_step file) suffix_step (Expr-F.Power base exponent)

  -- an `and`
  pub conjunction : (es : List Expr)
      → unfolded file (expression.And es)
      ≡ unfold_step file (Expr-F.And (map (unfolded file) es))
  unfolding unfolded unfolded_suffix
  conjunction es =
      ap (unfolded file) (sym (expression.rolls-And es))
      ∙ fold-roll-Expr Unfolded UnfoldedSuffix (unfold_step file) suffix_step (Expr-F.And es)

  -- an `or`
  pub disjunction : (es : List Expr)
      → unfolded file (expression.Or es)
      ≡ unfold_step file (Expr-F.Or (map (unfolded file) es))
  unfolding unfolded unfolded_suffix
  disjunction es =
      ap (unfolded file) (sym (expression.rolls-Or es))
      ∙ fold-roll-Expr Unfolded UnfoldedSuffix (unfold_step file) suffix_step (Expr-F.Or es)

  -- a comparison
  pub comparison : (first : Expr) (links : List (CmpOp × Expr))
      → unfolded file (expression.Compare first links)
      ≡ unfold_step file
      (Expr-F.Compare (unfolded file first) (map (λ l. (l.0, unfolded file l.1)) links))
  unfolding unfolded unfolded_suffix
  comparison first links =
      ap (unfolded file) (sym (expression.rolls-Compare first links))
      ∙ fold-roll-Expr Unfolded UnfoldedSuffix (unfold_step file) suffix_step (Expr-F.Compare first links)

  -- a conditional expression
  pub conditional : (test first second : Expr)
      → unfolded file (expression.If test first second)
      ≡ unfold_step file
      (Expr-F.If (unfolded file test) (unfolded file first) (unfolded file second))
  unfolding unfolded unfolded_suffix
  conditional test first second =
      ap (unfolded file) (sym (expression.rolls-If test first second))
      ∙ fold-roll-Expr Unfolded UnfoldedSuffix (unfold_step file) suffix_step (Expr-F.If test first second)

  -- a call
  pub call : (x : List ℕ) (args : List Expr)
      → unfolded file (expression.Call x args)
      ≡ unfold_step file (Expr-F.Call x (map (unfolded file) args))
  unfolding unfolded unfolded_suffix
  call x args =
      ap (unfolded file) (sym (expression.rolls-Call x args))
      ∙ fold-roll-Expr Unfolded UnfoldedSuffix (unfold_step file) suffix_step (Expr-F.Call x args)

  -- an expression with brackets behind it
  pub suffixed : (base : Expr) (ss : List Suffix)
      → unfolded file (expression.Suffixed base ss)
      ≡ unfold_step file (Expr-F.Suffixed (unfolded file base) (map (unfolded_suffix file) ss))
  unfolding unfolded unfolded_suffix
  suffixed base ss =
      ap (unfolded file) (sym (expression.rolls-Suffixed base ss))
      ∙ fold-roll-Expr Unfolded UnfoldedSuffix (unfold_step file) suffix_step (Expr-F.Suffixed base ss)

  -- an index
  pub index : (e : Expr)
      → unfolded_suffix file (suffix.Index e) ≡ suffix_step (Suffix-F.Index (unfolded file e))
  unfolding unfolded unfolded_suffix
  index e =
      ap (unfolded_suffix file) (sym (suffix.rolls-Index e))
      ∙ fold-roll-Suffix Unfolded UnfoldedSuffix (unfold_step file) suffix_step (Suffix-F.Index e)

  -- a slice without bounds
  pub slice_whole :
      unfolded_suffix file (suffix.Slice None None)
      ≡ suffix_step (Suffix-F.Slice None None)
  unfolding unfolded unfolded_suffix
  slice_whole =
      ap (unfolded_suffix file) (sym (suffix.rolls-Slice None None))
      ∙ fold-roll-Suffix Unfolded UnfoldedSuffix (unfold_step file) suffix_step (Suffix-F.Slice None None)

  -- a slice with an upper bound
  pub slice_to : (b : Expr)
      → unfolded_suffix file (suffix.Slice None (Some b))
      ≡ suffix_step (Suffix-F.Slice None (Some (unfolded file b)))
  unfolding unfolded unfolded_suffix
  slice_to b =
      ap (unfolded_suffix file) (sym (suffix.rolls-Slice None (Some b)))
      ∙ fold-roll-Suffix Unfolded UnfoldedSuffix (unfold_step file) suffix_step (Suffix-F.Slice None (Some b))

  -- a slice with a lower bound
  pub slice_from : (a : Expr)
      → unfolded_suffix file (suffix.Slice (Some a) None)
      ≡ suffix_step (Suffix-F.Slice (Some (unfolded file a)) None)
  unfolding unfolded unfolded_suffix
  slice_from a =
      ap (unfolded_suffix file) (sym (suffix.rolls-Slice (Some a) None))
      ∙ fold-roll-Suffix Unfolded UnfoldedSuffix (unfold_step file) suffix_step (Suffix-F.Slice (Some a) None)

  -- a slice with both bounds
  pub slice_between : (a b : Expr)
      → unfolded_suffix file (suffix.Slice (Some a) (Some b))
      ≡ suffix_step (Suffix-F.Slice (Some (unfolded file a)) (Some (unfolded file b)))
  unfolding unfolded unfolded_suffix
  slice_between a b =
      ap (unfolded_suffix file) (sym (suffix.rolls-Slice (Some a) (Some b)))
      ∙ fold-roll-Suffix Unfolded UnfoldedSuffix (unfold_step file) suffix_step (Suffix-F.Slice (Some a) (Some b))
