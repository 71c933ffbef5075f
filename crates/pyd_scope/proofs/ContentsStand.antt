-- Where the parts of statements stand that stand in a routine.
use Rattle.std.proofs.Common.{◌≡◌, ℕ, suc, ◌+◌, List, [], ◌∷◌, ◌++◌, length, refl, subst, ◌∙◌, ap, arith}
use Rattle.std.proofs.lemmas.List.{length-append}
use Rattle.pyd_tree.specs.declared.expression.Expr.{Expr}
use Rattle.pyd_tree.specs.declared.statement.Arm.{Arm}
use Rattle.pyd_tree.specs.declared.statement.Stmt.{Stmt}
use Rattle.pyd_scope.specs.Numbering.{Entry, Contents, nothing, followed, headed, inner, arm_contents, arms_contents, Point, point, past, inside, Stands}
use Rattle.pyd_scope.proofs.Stands.{stands_nothing, stands_first, stands_second, stands_behind}
use Rattle.pyd_scope.proofs.Contents.{IsKeptBy, of_inner, of_arm_contents}

-- there are as many entries as statements, whatever the number of the first expression is
abbrev pub IsSized : Contents → Type 0
IsSized c = (n : ℕ) → length (c.table n) ≡ c.statements

-- one part and then another have as many entries as both
pub sized_both : (a b : Contents) → IsSized a → IsSized b → IsSized (followed a b)
sized_both a b p q n =
    length-append (a.table n) (b.table (n + length a.expressions))
    ∙ (λ i. p n i + q (n + length a.expressions) i)

-- all contents are such
pub sized : IsKeptBy IsSized
sized = record {
  none = λ n. refl;
  one = λ e n. refl;
  both = sized_both;
  first = λ s ss p n. ap suc (p n);
}

-- those of a statement
pub sized_inner : (s : Stmt) → IsSized (inner s)
sized_inner s = of_inner IsSized sized s

-- those of an arm
pub sized_arm : (a : Arm) → IsSized (arm_contents a)
sized_arm a = of_arm_contents IsSized sized a

-- those of arms
pub sized_arms : (arms : List Arm) → IsSized (arms_contents arms)
sized_arms [] n = refl
sized_arms (a ∷ arms) n =
    sized_both (arm_contents a) (arms_contents arms) (sized_arm a) (sized_arms arms) n

-- behind nothing a place is the same
past_nothing : (p : Point) → past nothing p ≡ p
past_nothing p =
    let statement : p.statement + 0 ≡ p.statement = omega arith in
    let number : p.expression + 0 ≡ p.expression = omega arith in
    λ i. point (statement i) (number i)

-- a place behind two parts
pub past_both : (a b : Contents) (p : Point) → past (followed a b) p ≡ past b (past a p)
past_both a b p =
    let statement : p.statement + (a.statements + b.statements) ≡ p.statement + a.statements + b.statements =
    omega arith in
    let both : length (a.expressions ++ b.expressions) ≡ length a.expressions + length b.expressions =
    length-append a.expressions b.expressions in
    let number : p.expression + length (a.expressions ++ b.expressions)
    ≡ p.expression + length a.expressions + length b.expressions =
    omega (arith, both) in
    λ i. point (statement i) (number i)

module _ (table : List Entry) (all : List Expr) where
  -- what stands in a part stands in the tables of statements and of expressions at a place
  abbrev pub StandsAt : Contents → Point → Type 0
  StandsAt c p =
      Stands table p.statement (c.table p.expression) × Stands all p.expression c.expressions

  -- nothing stands anywhere
  pub nothing_at : (p : Point) → StandsAt nothing p
  nothing_at p = (stands_nothing table p.statement, stands_nothing all p.expression)

  -- the first of two parts stands where both do
  pub first_at : (a b : Contents) (p : Point) → StandsAt (followed a b) p → StandsAt a p
  first_at a b p s = (
    stands_first table p.statement (a.table p.expression)
        (b.table (p.expression + length a.expressions)) s.0,
    stands_first all p.expression a.expressions b.expressions s.1,
  )

  -- the second stands behind it
  pub second_at : (a b : Contents) (p : Point) → IsSized a → StandsAt (followed a b) p
      → StandsAt b (past a p)
  second_at a b p is s = (
    subst (λ n. Stands table (p.statement + n) (b.table (p.expression + length a.expressions)))
        (is p.expression)
        (stands_second table p.statement (a.table p.expression)
        (b.table (p.expression + length a.expressions)) s.0),
    stands_second all p.expression a.expressions b.expressions s.1,
  )

  -- what stands in statements stands inside the first
  pub inside_at : (ss : List Stmt) (c : Contents) (p : Point) → StandsAt (headed ss c) p
      → StandsAt c (inside p)
  inside_at ss c p s = (
    stands_behind table p.statement (record { stmts = ss; expression = p.expression })
        (c.table p.expression) s.0,
    s.1,
  )
