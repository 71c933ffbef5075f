-- Inductions over expressions and over statements: what holds of one wherever it holds of all that stand directly in it.
use Rattle.std.proofs.Common.{List, [], ◌∷◌, map, Option, Some, None, sym, subst, ◌∙◌}
use Rattle.pyd_tree.specs.declared.expression.Expr.{Expr, out-Expr, roll-Expr}
use Rattle.pyd_tree.specs.declared.expression.Expr.TheOpen.{Expr-F, Suffix-F}
use Rattle.pyd_tree.specs.declared.expression.Expr.TheViews.{out-roll-Expr, out-roll-Suffix}
use Rattle.pyd_tree.specs.declared.expression.Expr.TheFolds.{map-Expr, map-Suffix, ind-Expr}
use Rattle.pyd_tree.specs.declared.expression.Suffix.{Suffix, out-Suffix}
use Rattle.pyd_tree.specs.declared.statement.What.{What, out-What}
use Rattle.pyd_tree.specs.declared.statement.What.TheOpen.{What-F, Arm-F, Block-F, Stmt-F}
use Rattle.pyd_tree.specs.declared.statement.What.TheViews.{out-roll-What, out-roll-Arm, out-roll-Block}
use Rattle.pyd_tree.specs.declared.statement.What.TheFolds.{map-What, ind-Stmt}
use Rattle.pyd_tree.specs.declared.statement.Arm.{Arm, out-Arm}
use Rattle.pyd_tree.specs.declared.statement.Block.{Block, out-Block}
use Rattle.pyd_tree.specs.declared.statement.Stmt.{Stmt, roll-Stmt}

-- P of each of some parts
abbrev pub Each : {A : Type 0} → (A → Type 0) → List A → Type 0
Each P [] = Unit {0}
Each P (x ∷ xs) = P x × Each P xs

-- P of a part that may be missing
abbrev pub Maybe : {A : Type 0} → (A → Type 0) → Option A → Type 0
Maybe P None = Unit {0}
Maybe P (Some x) = P x

-- P of each of a list whose items have it
each_has : {A : Type 0} (P : A → Type 0) (xs : List ((x : A) × P x)) → Each P (map (λ x. x.0) xs)
each_has P [] = tt
each_has P (x ∷ xs) = (x.1, each_has P xs)

-- P of each right operand of operators
each_operand_has : {A B : Type 0} (P : B → Type 0) (links : List (A × ((x : B) × P x)))
    → Each (λ (l : A × B). P l.1) (map (λ (l : A × ((x : B) × P x)). (l.0, l.1.0)) links)
each_operand_has P [] = tt
each_operand_has P (l ∷ links) = (l.1.1, each_operand_has P links)

-- P of the expressions that stand directly in brackets
abbrev pub InBrackets : (Expr → Type 0) → Suffix-F Expr Suffix → Type 0
InBrackets P (Suffix-F.Index index) = P index
InBrackets P (Suffix-F.Slice low high) = Maybe P low × Maybe P high

-- P of the expressions that stand directly in one
abbrev pub InParts : (Expr → Type 0) → Expr-F Expr Suffix → Type 0
InParts P (Expr-F.Lit v) = Unit {0}
InParts P (Expr-F.Name name) = Unit {0}
InParts P (Expr-F.Tuple members) = Each P members
InParts P (Expr-F.Unary op e) = P e
InParts P (Expr-F.Chain first links) = P first × Each (λ l. P l.1) links
InParts P (Expr-F.Power base exponent) = P base × P exponent
InParts P (Expr-F.And members) = Each P members
InParts P (Expr-F.Or members) = Each P members
InParts P (Expr-F.Compare first links) = P first × Each (λ l. P l.1) links
InParts P (Expr-F.If test first second) = P test × (P first × P second)
InParts P (Expr-F.Call name args) = Each P args
InParts P (Expr-F.Suffixed base suffixes) =
    P base × Each (λ s. InBrackets P (out-Suffix s)) suffixes

-- P of all that stands directly in a statement's suites
abbrev pub InSuite : (Stmt → Type 0) → Block → Type 0
InSuite P b = Each P (out-Block b).stmts

-- P of all that stands directly in the suites of a statement
abbrev pub InSuites : (Stmt → Type 0) → What-F What Arm Block Stmt → Type 0
InSuites P (What-F.Expr e) = Unit {0}
InSuites P (What-F.Assign targets e) = Unit {0}
InSuites P (What-F.Aug name op e) = Unit {0}
InSuites P (What-F.If arms otherwise) =
    Each (λ a. InSuite P (out-Arm a).body) arms × Maybe (InSuite P) otherwise
InSuites P (What-F.While test body) = InSuite P body
InSuites P (What-F.For targets e body) = InSuite P body
InSuites P (What-F.Return e) = Unit {0}
InSuites P What-F.Break = Unit {0}
InSuites P What-F.Continue = Unit {0}
InSuites P What-F.Pass = Unit {0}
InSuites P (What-F.Assert test message) = Unit {0}

module _ (P : Expr → Type 0) where
  -- P of all that stands in brackets
  abbrev OfSuffix : Suffix → Type 0
  OfSuffix s = InBrackets P (out-Suffix s)

  -- one level of brackets, each part with what holds of it
  abbrev SuffixLevel : Type 0
  SuffixLevel = Suffix-F ((e : Expr) × P e) ((s : Suffix) × OfSuffix s)

  -- one level of an expression, each part with what holds of it
  abbrev ExprLevel : Type 0
  ExprLevel = Expr-F ((e : Expr) × P e) ((s : Suffix) × OfSuffix s)

  -- the brackets alone
  abbrev bare_suffix : SuffixLevel → Suffix-F Expr Suffix
  bare_suffix s =
      map-Suffix ((e : Expr) × P e) ((s : Suffix) × OfSuffix s) Expr Suffix
      (λ x. x.0) (λ x. x.0) s

  -- the expression alone
  abbrev bare_expression : ExprLevel → Expr-F Expr Suffix
  bare_expression e =
      map-Expr ((e : Expr) × P e) ((s : Suffix) × OfSuffix s) Expr Suffix (λ x. x.0) (λ x. x.0) e

  -- what holds of the parts of brackets
  in_brackets : (s : SuffixLevel) → InBrackets P (bare_suffix s)
  in_brackets (Suffix-F.Index index) = index.1
  in_brackets (Suffix-F.Slice None None) = (tt, tt)
  in_brackets (Suffix-F.Slice None (Some high)) = (tt, high.1)
  in_brackets (Suffix-F.Slice (Some low) None) = (low.1, tt)
  in_brackets (Suffix-F.Slice (Some low) (Some high)) = (low.1, high.1)

  -- what holds of the parts of an expression
  in_parts : (e : ExprLevel) → InParts P (bare_expression e)
  in_parts (Expr-F.Lit v) = tt
  in_parts (Expr-F.Name name) = tt
  in_parts (Expr-F.Tuple members) = each_has P members
  in_parts (Expr-F.Unary op e) = e.1
  in_parts (Expr-F.Chain first links) = (first.1, each_operand_has P links)
  in_parts (Expr-F.Power base exponent) = (base.1, exponent.1)
  in_parts (Expr-F.And members) = each_has P members
  in_parts (Expr-F.Or members) = each_has P members
  in_parts (Expr-F.Compare first links) = (first.1, each_operand_has P links)
  in_parts (Expr-F.If test first second) = (test.1, (first.1, second.1))
  in_parts (Expr-F.Call name args) = each_has P args
  in_parts (Expr-F.Suffixed base suffixes) = (base.1, each_has OfSuffix suffixes)

  -- what holds of an expression wherever it holds of its parts holds of each
  pub by_parts : ((e : Expr) → InParts P (out-Expr e) → P e) → (e : Expr) → P e
  by_parts step =
      ind-Expr P OfSuffix
      (λ x y is. step (roll-Expr x) (subst (InParts P) (is ∙ sym (out-roll-Expr x)) (in_parts y)))
      (λ x y is. subst (InBrackets P) (is ∙ sym (out-roll-Suffix x)) (in_brackets y))

module _ (P : Stmt → Type 0) where
  -- P of all that stands in what a statement does
  abbrev OfWhat : What → Type 0
  OfWhat w = InSuites P (out-What w)

  -- P of all that stands in a block
  abbrev OfBlock : Block → Type 0
  OfBlock b = InSuite P b

  -- P of all that stands in an arm
  abbrev OfArm : Arm → Type 0
  OfArm a = InSuite P (out-Arm a).body

  -- one level of what a statement does, each part with what holds of it
  abbrev WhatLevel : Type 0
  WhatLevel =
      What-F ((w : What) × OfWhat w) ((a : Arm) × OfArm a) ((b : Block) × OfBlock b)
      ((s : Stmt) × P s)

  -- the level alone
  abbrev bare_what : WhatLevel → What-F What Arm Block Stmt
  bare_what w =
      map-What ((w : What) × OfWhat w) ((a : Arm) × OfArm a) ((b : Block) × OfBlock b)
      ((s : Stmt) × P s) What Arm Block Stmt (λ x. x.0) (λ x. x.0) (λ x. x.0) (λ x. x.0) w

  -- what holds of the suites of a statement
  in_suites : (w : WhatLevel) → InSuites P (bare_what w)
  in_suites (What-F.Expr e) = tt
  in_suites (What-F.Assign targets e) = tt
  in_suites (What-F.Aug name op e) = tt
  in_suites (What-F.If arms None) = (each_has OfArm arms, tt)
  in_suites (What-F.If arms (Some otherwise)) = (each_has OfArm arms, otherwise.1)
  in_suites (What-F.While test body) = body.1
  in_suites (What-F.For targets e body) = body.1
  in_suites (What-F.Return e) = tt
  in_suites What-F.Break = tt
  in_suites What-F.Continue = tt
  in_suites What-F.Pass = tt
  in_suites (What-F.Assert test message) = tt

  -- what holds of a statement wherever it holds of those in its suites holds of each
  pub by_suites : ((s : Stmt) → InSuites P (out-What s.what) → P s) → (s : Stmt) → P s
  by_suites step =
      ind-Stmt OfWhat OfArm OfBlock P
      (λ x y is. subst (InSuites P) (is ∙ sym (out-roll-What x)) (in_suites y))
      (λ x y is. subst (λ (z : Arm-F What Arm Block Stmt). InSuite P z.body)
      (is ∙ sym (out-roll-Arm x)) y.body.1)
      (λ x y is. subst (λ (z : Block-F What Arm Block Stmt). Each P z.stmts)
      (is ∙ sym (out-roll-Block x)) (each_has P y.stmts))
      (λ x y is. step (roll-Stmt x)
      (subst (λ (z : Stmt-F What Arm Block Stmt). InSuites P (out-What z.what)) is y.what.1))
