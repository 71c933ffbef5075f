-- How deep expressions stand in expressions.
use Rattle.std.specs.Prelude.{◌≡◌, ℕ, ◌+◌, max, List, map, Option, Some, None, option_map}
use Rattle.pyd_value.specs.declared.value.Value.{Value}
use Rattle.pyd_value.specs.declared.operator.BinOp.{BinOp}
use Rattle.pyd_value.specs.declared.operator.CmpOp.{CmpOp}
use Rattle.pyd_value.specs.declared.operator.UnOp.{UnOp}
use Rattle.pyd_value.specs.Size.{greatest}
use Rattle.pyd_tree.specs.declared.expression.Expr.{Expr, fold-Expr}
use Rattle.pyd_tree.specs.declared.expression.Expr.TheOpen.{Expr-F, Suffix-F}
use Rattle.pyd_tree.specs.declared.expression.Expr.TheVariants as expression
use Rattle.pyd_tree.specs.declared.expression.Suffix.{Suffix, fold-Suffix}
use Rattle.pyd_tree.specs.declared.expression.Suffix.TheVariants as suffix

-- a bound of a slice, 0 where it is missing
abbrev pub or_zero : Option ℕ → ℕ
or_zero None = 0
or_zero (Some n) = n

-- one level, each part being given by its nesting
abbrev pub nesting_step : Expr-F ℕ ℕ → ℕ
nesting_step (Expr-F.Lit v) = 0
nesting_step (Expr-F.Name n) = 0
nesting_step (Expr-F.Tuple ns) = 1 + greatest ns
nesting_step (Expr-F.Unary op n) = 1 + n
nesting_step (Expr-F.Chain n ls) = 1 + max n (greatest (map (λ l. l.1) ls))
nesting_step (Expr-F.Power m n) = 1 + max m n
nesting_step (Expr-F.And ns) = 1 + greatest ns
nesting_step (Expr-F.Or ns) = 1 + greatest ns
nesting_step (Expr-F.Compare n ls) = 1 + max n (greatest (map (λ l. l.1) ls))
nesting_step (Expr-F.If l m n) = 1 + max l (max m n)
nesting_step (Expr-F.Call name ns) = 1 + greatest ns
nesting_step (Expr-F.Suffixed n ss) = 1 + max n (greatest ss)

-- what stands in brackets, each expression being given by its nesting
abbrev pub suffix_step : Suffix-F ℕ ℕ → ℕ
suffix_step (Suffix-F.Index n) = n
suffix_step (Suffix-F.Slice m n) = max (or_zero m) (or_zero n)

-- 0 for a name or a literal, else 1 more than the greatest of the direct parts
abbrev pub nesting : Expr → ℕ
nesting = fold-Expr ℕ ℕ nesting_step suffix_step

-- the greatest nesting in brackets
abbrev pub suffix_nesting : Suffix → ℕ
suffix_nesting = fold-Suffix ℕ ℕ nesting_step suffix_step

-- what nesting says of each kind of expression
pub record NestingByKind : Type 0 where
  pub literal : (v : Value) → nesting (expression.Lit v) ≡ 0
  pub name : (n : List ℕ) → nesting (expression.Name n) ≡ 0
  pub tuple : (es : List Expr) → nesting (expression.Tuple es) ≡ 1 + greatest (map nesting es)
  pub unary : (op : UnOp) (e : Expr) → nesting (expression.Unary op e) ≡ 1 + nesting e
  pub chain : (e : Expr) (ls : List (BinOp × Expr)) → nesting (expression.Chain e ls) ≡ 1 + max (nesting e) (greatest (map (λ l. nesting l.1) ls))
  pub power : (b e : Expr) → nesting (expression.Power b e) ≡ 1 + max (nesting b) (nesting e)
  pub and : (es : List Expr) → nesting (expression.And es) ≡ 1 + greatest (map nesting es)
  pub or : (es : List Expr) → nesting (expression.Or es) ≡ 1 + greatest (map nesting es)
  pub compare : (e : Expr) (ls : List (CmpOp × Expr)) → nesting (expression.Compare e ls) ≡ 1 + max (nesting e) (greatest (map (λ l. nesting l.1) ls))
  pub choice : (c y n : Expr) → nesting (expression.If c y n) ≡ 1 + max (nesting c) (max (nesting y) (nesting n))
  pub call : (n : List ℕ) (es : List Expr) → nesting (expression.Call n es) ≡ 1 + greatest (map nesting es)
  pub suffixed : (e : Expr) (ss : List Suffix) → nesting (expression.Suffixed e ss) ≡ 1 + max (nesting e) (greatest (map suffix_nesting ss))
  pub index : (e : Expr) → suffix_nesting (suffix.Index e) ≡ nesting e
  pub slice : (l u : Option Expr) → suffix_nesting (suffix.Slice l u) ≡ max (or_zero (option_map nesting l)) (or_zero (option_map nesting u))
