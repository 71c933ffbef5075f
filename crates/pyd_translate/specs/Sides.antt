-- The nodes of a side of a choice, and of what is left of an `and`, an `or` or a comparison.
use Rattle.std.specs.Prelude.{ℕ, suc, ◌+◌, List, map, take, drop, Option, Some, None}
use Rattle.std.specs.List.{slice_get}
use Rattle.pyd_value.specs.declared.fault.Kind.TheVariants.{NameError}
use Rattle.pyd_value.specs.declared.operator.CmpOp.{CmpOp}
use Rattle.pyd_tree.specs.declared.expression.Expr.{Expr, out-Expr}
use Rattle.pyd_tree.specs.declared.expression.Expr.TheOpen.{Expr-F}
use Rattle.pyd_tree.specs.declared.expression.Suffix.{Suffix}
use Rattle.pyd_tree.specs.declared.file.File.{File}
use Rattle.pyd_ir.specs.declared.arg.Arg.{Arg}
use Rattle.pyd_ir.specs.declared.work.Side.{Side}
use Rattle.pyd_ir.specs.declared.work.Side.TheVariants as side
use Rattle.pyd_translate.specs.Making.{Making, Context, pure, stop_by}
use Rattle.pyd_scope.specs.Numbering.{expression_table}
use Rattle.pyd_translate.specs.Expressions.{Unfolded, unfolded, expression_unfolds, counts, operand_counts, conjunction, disjunction, compared}

module _ (file : File) where
  -- the right operands of comparisons
  abbrev pub unfolded_links : List (CmpOp × Expr) → List (CmpOp × Unfolded)
  unfolded_links links = map (λ l. (l.0, unfolded file l.1)) links

  -- what is left of expression number `whole` from member m on, where its members begin at number k
  abbrev pub members_left : (ℕ → ℕ → List Unfolded → ℕ → Context → Making Arg)
      → ℕ → ℕ → List Unfolded → ℕ → Context → Making Arg
  members_left members whole m es k at = members whole m (drop m es) (k + counts (take m es)) at

  -- the same from link m on, where the links begin at number k
  abbrev pub links_left : ℕ → ℕ → List (CmpOp × Unfolded) → ℕ → Context → Arg → Making Arg
  links_left whole m links k at a =
      compared whole m (drop m links) (k + operand_counts (take m links)) at a

  -- what is left of an expression that is an `and`, an `or` or a comparison, by its first level; nothing is left of any other
  abbrev pub left_at : Expr-F Expr Suffix → ℕ → ℕ → Arg → Context → Making Arg
  left_at (Expr-F.And members) whole m a at =
      members_left conjunction whole m (map (unfolded file) members) (suc whole) at
  left_at (Expr-F.Or members) whole m a at =
      members_left disjunction whole m (map (unfolded file) members) (suc whole) at
  left_at (Expr-F.Compare first links) whole m a at =
      links_left whole m (unfolded_links links) (suc whole + (unfolded file first).count) at a
  left_at (Expr-F.Lit v) whole m a at = stop_by at NameError
  left_at (Expr-F.Name name) whole m a at = stop_by at NameError
  left_at (Expr-F.Tuple members) whole m a at = stop_by at NameError
  left_at (Expr-F.Unary op e) whole m a at = stop_by at NameError
  left_at (Expr-F.Chain first links) whole m a at = stop_by at NameError
  left_at (Expr-F.Power base exponent) whole m a at = stop_by at NameError
  left_at (Expr-F.If test first second) whole m a at = stop_by at NameError
  left_at (Expr-F.Call name args) whole m a at = stop_by at NameError
  left_at (Expr-F.Suffixed base suffixes) whole m a at = stop_by at NameError

  -- an expression that a number may name
  abbrev pub unfold_numbered : Option Expr → ℕ → Context → Making Arg
  unfold_numbered None k at = stop_by at NameError
  unfold_numbered (Some e) k at = expression_unfolds file e k at

  -- what is left of an expression that a number may name
  abbrev pub left_numbered : Option Expr → ℕ → ℕ → Arg → Context → Making Arg
  left_numbered None k m a at = stop_by at NameError
  left_numbered (Some e) k m a at = left_at (out-Expr e) k m a at

  -- the expression of this number in the routine
  abbrev pub numbered : Context → ℕ → Option Expr
  numbered at k = slice_get (expression_table file at.routine) k

  -- a side: a value, an expression, or what is left of one
  unfoldable pub side_unfolds : Side → Context → Making Arg
  side_unfolds (side.Arg a) at = pure a
  side_unfolds (side.Expr k) at = unfold_numbered (numbered at k) k at
  side_unfolds (side.Tail k m a) at = left_numbered (numbered at k) k m a at
