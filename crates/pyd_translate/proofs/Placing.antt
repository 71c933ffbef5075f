-- Where the parts of statements stand that stand in a routine.
use Rattle.std.proofs.Common.{◌≡◌, ℕ, zero, suc, ◌+◌, List, [], ◌∷◌, ◌++◌, length, take, Option, Some, None, refl, sym, ap, subst, ◌∙◌, arith}
use Rattle.std.specs.List.{slice_get}
use Rattle.std.proofs.lemmas.List.{length-append}
use Rattle.pyd_tree.specs.declared.expression.Expr.{Expr}
use Rattle.pyd_tree.specs.declared.statement.What.{What, out-What}
use Rattle.pyd_tree.specs.declared.statement.What.TheOpen.{What-F}
use Rattle.pyd_tree.specs.declared.statement.Arm.{Arm, out-Arm}
use Rattle.pyd_tree.specs.declared.statement.Block.{Block}
use Rattle.pyd_tree.specs.declared.statement.Stmt.{Stmt}
use Rattle.pyd_scope.specs.Numbering.{Entry, Contents, nothing, followed, expression, headed, inner, arm_contents, contents, arms_contents, Point, point, past, past_expression, inside}
use Rattle.pyd_scope.specs.Passages.{Passage}
use Rattle.pyd_translate.specs.Compounds.{behind, past_first, compound_of, first_compound}
use Rattle.pyd_translate.specs.Starts.{suite, maybe_suite, arm_suite, suite_of_arm, suite_of_else, suite_of_loop}
use Rattle.pyd_translate.specs.Laws.{Stands}
use Rattle.pyd_translate.proofs.Standing.{stands_nothing, stands_first, stands_second, stands_behind}
use Rattle.pyd_translate.proofs.Contents.{block_contents, maybe_block, what_inner, arm_out, inner_out, IsKeptBy, of_inner, of_arm_contents}

-- there are as many entries as statements, whatever the number of the first expression is
abbrev pub IsSized : Contents → Type 0
IsSized c = (n : ℕ) → length (c.table n) ≡ c.statements

-- one part and then another have as many entries as both
sized_both : (a b : Contents) → IsSized a → IsSized b → IsSized (followed a b)
sized_both a b p q n =
    length-append (a.table n) (b.table (n + length a.expressions))
    ∙ (λ i. p n i + q (n + length a.expressions) i)

-- all contents are such
pub sized : IsKeptBy IsSized
sized = record {
  none = λ n. refl;
  one = λ e n. refl;
  both = sized_both;
  first = λ s ss p n. ap suc (p n);
}

-- those of a statement
pub sized_inner : (s : Stmt) → IsSized (inner s)
sized_inner s = of_inner IsSized sized s

-- those of an arm
pub sized_arm : (a : Arm) → IsSized (arm_contents a)
sized_arm a = of_arm_contents IsSized sized a

-- those of arms
pub sized_arms : (arms : List Arm) → IsSized (arms_contents arms)
sized_arms [] n = refl
sized_arms (a ∷ arms) n =
    sized_both (arm_contents a) (arms_contents arms) (sized_arm a) (sized_arms arms) n

-- behind nothing a place is the same
pub past_nothing : (p : Point) → past nothing p ≡ p
past_nothing p =
    let statement : p.statement + 0 ≡ p.statement = omega arith in
    let number : p.expression + 0 ≡ p.expression = omega arith in
    λ i. point (statement i) (number i)

-- a place behind two parts
pub past_both : (a b : Contents) (p : Point) → past (followed a b) p ≡ past b (past a p)
past_both a b p =
    let statement : p.statement + (a.statements + b.statements) ≡ p.statement + a.statements + b.statements =
    omega arith in
    let both : length (a.expressions ++ b.expressions) ≡ length a.expressions + length b.expressions =
    length-append a.expressions b.expressions in
    let number : p.expression + length (a.expressions ++ b.expressions)
    ≡ p.expression + length a.expressions + length b.expressions =
    omega (arith, both) in
    λ i. point (statement i) (number i)

module _ (table : List Entry) (all : List Expr) where
  -- what stands in a part stands in the tables of statements and of expressions at a place
  abbrev pub StandsAt : Contents → Point → Type 0
  StandsAt c p =
      Stands table p.statement (c.table p.expression) × Stands all p.expression c.expressions

  -- statements stand at their place, with all that stands in them
  abbrev pub IsAt : Passage → Type 0
  IsAt here = StandsAt (contents here.stmts) here.point

  -- nothing stands anywhere
  pub nothing_at : (p : Point) → StandsAt nothing p
  nothing_at p = (stands_nothing table p.statement, stands_nothing all p.expression)

  -- the first of two parts stands where both do
  pub first_at : (a b : Contents) (p : Point) → StandsAt (followed a b) p → StandsAt a p
  first_at a b p s = (
    stands_first table p.statement (a.table p.expression)
        (b.table (p.expression + length a.expressions)) s.0,
    stands_first all p.expression a.expressions b.expressions s.1,
  )

  -- the second stands behind it
  pub second_at : (a b : Contents) (p : Point) → IsSized a → StandsAt (followed a b) p
      → StandsAt b (past a p)
  second_at a b p is s = (
    subst (λ n. Stands table (p.statement + n) (b.table (p.expression + length a.expressions)))
        (is p.expression)
        (stands_second table p.statement (a.table p.expression)
        (b.table (p.expression + length a.expressions)) s.0),
    stands_second all p.expression a.expressions b.expressions s.1,
  )

  -- what stands in statements stands inside the first
  pub inside_at : (ss : List Stmt) (c : Contents) (p : Point) → StandsAt (headed ss c) p
      → StandsAt c (inside p)
  inside_at ss c p s = (
    stands_behind table p.statement (record { stmts = ss; expression = p.expression })
        (c.table p.expression) s.0,
    s.1,
  )

  -- what stands in the first of statements
  pub first_statement_at : (s : Stmt) (ss : List Stmt) (p : Point) → StandsAt (contents (s ∷ ss)) p
      → StandsAt (what_inner (out-What s.what)) (inside p)
  first_statement_at s ss p st =
      subst (λ c. StandsAt c (inside p)) (inner_out s)
      (first_at (inner s) (contents ss) (inside p)
      (inside_at (s ∷ ss) (followed (inner s) (contents ss)) p st))

  -- what follows the first statement stands behind it
  pub behind_at : (ss : List Stmt) (p : Point) → StandsAt (contents ss) p
      → StandsAt (contents (behind ss)) (past_first ss p)
  behind_at [] p st = nothing_at p
  behind_at (s ∷ ss) p st =
      second_at (inner s) (contents ss) (inside p) (sized_inner s)
      (inside_at (s ∷ ss) (followed (inner s) (contents ss)) p st)

  -- what stands behind a header
  pub behind_header : (e : Expr) (c : Contents) (p : Point) → StandsAt (followed (expression e) c) p
      → StandsAt c (past_expression e p)
  behind_header e c p st = second_at (expression e) c p (λ n. refl) st

  -- the suite of an arm stands behind its test
  pub suite_at : (a : Arm) (p : Point) → StandsAt (arm_contents a) p
      → IsAt (suite (out-Arm a).body (past_expression (out-Arm a).test p))
  suite_at a p st =
      behind_header (out-Arm a).test (block_contents (out-Arm a).body) p
      (subst (λ c. StandsAt c p) (arm_out a) st)

  -- the suite of each of some arms stands at its place
  pub arm_at : (arms : List Arm) (arm : ℕ) (p : Point) → StandsAt (arms_contents arms) p
      → IsAt (arm_suite (slice_get arms arm) (past (arms_contents (take arm arms)) p))
  arm_at [] arm p st = nothing_at (point 0 0)
  arm_at (a ∷ arms) zero p st =
      subst (λ q. IsAt (suite (out-Arm a).body (past_expression (out-Arm a).test q)))
      (sym (past_nothing p))
      (suite_at a p (first_at (arm_contents a) (arms_contents arms) p st))
  arm_at (a ∷ arms) (suc arm) p st =
      subst (λ q. IsAt (arm_suite (slice_get arms arm) q))
      (sym (past_both (arm_contents a) (arms_contents (take arm arms)) p))
      (arm_at arms arm (past (arm_contents a) p)
      (second_at (arm_contents a) (arms_contents arms) p (sized_arm a) st))

  -- the suite of an `else` stands behind the arms
  pub else_at : (b : Option Block) (p : Point) → StandsAt (maybe_block b) p → IsAt (maybe_suite b p)
  else_at None p st = nothing_at (point 0 0)
  else_at (Some b) p st = st

  -- the suite of an arm of a statement stands at its place
  arm_of_level : (y : What-F What Arm Block Stmt) (arm : ℕ) (p : Point)
      → StandsAt (what_inner y) (inside p) → IsAt (suite_of_arm (compound_of y) arm p)
  arm_of_level (What-F.Expr e) arm p st = nothing_at (point 0 0)
  arm_of_level (What-F.Assign targets e) arm p st = nothing_at (point 0 0)
  arm_of_level (What-F.Aug name op e) arm p st = nothing_at (point 0 0)
  arm_of_level (What-F.If arms otherwise) arm p st =
      arm_at arms arm (inside p)
      (first_at (arms_contents arms) (maybe_block otherwise) (inside p) st)
  arm_of_level (What-F.While test body) arm p st = nothing_at (point 0 0)
  arm_of_level (What-F.For targets e body) arm p st = nothing_at (point 0 0)
  arm_of_level (What-F.Return e) arm p st = nothing_at (point 0 0)
  arm_of_level What-F.Break arm p st = nothing_at (point 0 0)
  arm_of_level What-F.Continue arm p st = nothing_at (point 0 0)
  arm_of_level What-F.Pass arm p st = nothing_at (point 0 0)
  arm_of_level (What-F.Assert test message) arm p st = nothing_at (point 0 0)

  -- the suite of the `else` of a statement
  else_of_level : (y : What-F What Arm Block Stmt) (p : Point)
      → StandsAt (what_inner y) (inside p) → IsAt (suite_of_else (compound_of y) p)
  else_of_level (What-F.Expr e) p st = nothing_at (point 0 0)
  else_of_level (What-F.Assign targets e) p st = nothing_at (point 0 0)
  else_of_level (What-F.Aug name op e) p st = nothing_at (point 0 0)
  else_of_level (What-F.If arms otherwise) p st =
      else_at otherwise (past (arms_contents arms) (inside p))
      (second_at (arms_contents arms) (maybe_block otherwise) (inside p) (sized_arms arms) st)
  else_of_level (What-F.While test body) p st = nothing_at (point 0 0)
  else_of_level (What-F.For targets e body) p st = nothing_at (point 0 0)
  else_of_level (What-F.Return e) p st = nothing_at (point 0 0)
  else_of_level What-F.Break p st = nothing_at (point 0 0)
  else_of_level What-F.Continue p st = nothing_at (point 0 0)
  else_of_level What-F.Pass p st = nothing_at (point 0 0)
  else_of_level (What-F.Assert test message) p st = nothing_at (point 0 0)

  -- the suite of a loop
  loop_of_level : (y : What-F What Arm Block Stmt) (p : Point)
      → StandsAt (what_inner y) (inside p) → IsAt (suite_of_loop (compound_of y) p)
  loop_of_level (What-F.Expr e) p st = nothing_at (point 0 0)
  loop_of_level (What-F.Assign targets e) p st = nothing_at (point 0 0)
  loop_of_level (What-F.Aug name op e) p st = nothing_at (point 0 0)
  loop_of_level (What-F.If arms otherwise) p st = nothing_at (point 0 0)
  loop_of_level (What-F.While test body) p st =
      behind_header test (block_contents body) (inside p) st
  loop_of_level (What-F.For targets e body) p st =
      behind_header e (block_contents body) (inside p) st
  loop_of_level (What-F.Return e) p st = nothing_at (point 0 0)
  loop_of_level What-F.Break p st = nothing_at (point 0 0)
  loop_of_level What-F.Continue p st = nothing_at (point 0 0)
  loop_of_level What-F.Pass p st = nothing_at (point 0 0)
  loop_of_level (What-F.Assert test message) p st = nothing_at (point 0 0)

  -- the suite of an arm of the first statement
  pub arm_in : (arm : ℕ) (ss : List Stmt) (p : Point) → StandsAt (contents ss) p
      → IsAt (suite_of_arm (first_compound ss) arm p)
  arm_in arm [] p st = nothing_at (point 0 0)
  arm_in arm (s ∷ ss) p st =
      arm_of_level (out-What s.what) arm p (first_statement_at s ss p st)

  -- the suite of its `else`
  pub else_in : (ss : List Stmt) (p : Point) → StandsAt (contents ss) p
      → IsAt (suite_of_else (first_compound ss) p)
  else_in [] p st = nothing_at (point 0 0)
  else_in (s ∷ ss) p st = else_of_level (out-What s.what) p (first_statement_at s ss p st)

  -- its suite, where it is a loop
  pub loop_in : (ss : List Stmt) (p : Point) → StandsAt (contents ss) p
      → IsAt (suite_of_loop (first_compound ss) p)
  loop_in [] p st = nothing_at (point 0 0)
  loop_in (s ∷ ss) p st = loop_of_level (out-What s.what) p (first_statement_at s ss p st)
