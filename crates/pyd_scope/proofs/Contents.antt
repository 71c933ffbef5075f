-- What stands in a statement, in an arm and in a block, by their first level, and an induction over it.
use Rattle.std.proofs.Common.{◌≡◌, List, [], ◌∷◌, map, Option, Some, None, refl, sym, ap, subst, ◌∙◌}
use Rattle.pyd_tree.specs.declared.expression.Expr.{Expr}
use Rattle.pyd_tree.specs.declared.statement.What.{What, out-What, roll-What, fold-What}
use Rattle.pyd_tree.specs.declared.statement.What.TheOpen.{What-F}
use Rattle.pyd_tree.specs.declared.statement.What.TheViews.{roll-out-What, roll-out-Arm, roll-out-Block}
use Rattle.pyd_tree.specs.declared.statement.What.TheFolds.{map-What, fold_out-What, fold_out-Arm, fold_out-Block, fold_out-Stmt}
use Rattle.pyd_tree.specs.declared.statement.Arm.{Arm, out-Arm, roll-Arm, fold-Arm}
use Rattle.pyd_tree.specs.declared.statement.Block.{Block, out-Block, roll-Block, fold-Block}
use Rattle.pyd_tree.specs.declared.statement.Stmt.{Stmt, roll-Stmt, fold-Stmt}
use Rattle.pyd_scope.specs.Numbering.{Contents, Standing, nothing, followed, headed, expression, maybe_expression, own, in_order, headed_each, what_contents, what_standing, arm_standing, block_standing, stmt_standing, inner, arm_contents, contents, arms_contents}
use Rattle.pyd_scope.proofs.Induction.{Each, Maybe, InSuite, InSuites, by_suites}

-- what stands in a block
abbrev pub block_contents : Block → Contents
block_contents b = contents (out-Block b).stmts

-- what stands in a block that may be missing
abbrev pub maybe_block : Option Block → Contents
maybe_block None = nothing
maybe_block (Some b) = block_contents b

-- what stands in a statement, by its first level
abbrev pub what_inner : What-F What Arm Block Stmt → Contents
what_inner (What-F.Expr e) = expression e
what_inner (What-F.Assign targets e) = expression e
what_inner (What-F.Aug name op e) = expression e
what_inner (What-F.If arms otherwise) = followed (arms_contents arms) (maybe_block otherwise)
what_inner (What-F.While test body) = followed (expression test) (block_contents body)
what_inner (What-F.For targets e body) = followed (expression e) (block_contents body)
what_inner (What-F.Return e) = maybe_expression e
what_inner What-F.Break = nothing
what_inner What-F.Continue = nothing
what_inner What-F.Pass = nothing
what_inner (What-F.Assert test message) = followed (expression test) (maybe_expression message)

-- a statement as the numbering sees it
abbrev standing : Stmt → Standing Stmt
standing =
    fold-Stmt (Standing What) (Standing Arm) (Standing Block) (Standing Stmt)
    what_standing arm_standing block_standing stmt_standing

-- what a statement does
abbrev standing_what : What → Standing What
standing_what =
    fold-What (Standing What) (Standing Arm) (Standing Block) (Standing Stmt)
    what_standing arm_standing block_standing stmt_standing

-- an arm
abbrev standing_arm : Arm → Standing Arm
standing_arm =
    fold-Arm (Standing What) (Standing Arm) (Standing Block) (Standing Stmt)
    what_standing arm_standing block_standing stmt_standing

-- a block
abbrev standing_block : Block → Standing Block
standing_block =
    fold-Block (Standing What) (Standing Arm) (Standing Block) (Standing Stmt)
    what_standing arm_standing block_standing stmt_standing

-- one level of what a statement does
abbrev level : What-F What Arm Block Stmt
    → What-F (Standing What) (Standing Arm) (Standing Block) (Standing Stmt)
level y =
    map-What What Arm Block Stmt (Standing What) (Standing Arm) (Standing Block) (Standing Stmt)
    standing_what standing_arm standing_block standing y

-- the numbering keeps a statement
abbrev IsSelf : Stmt → Type 0
IsSelf s = (standing s).self ≡ s

-- it keeps several
statements_self : (ss : List Stmt) → Each IsSelf ss → map own (map standing ss) ≡ ss
statements_self [] p = refl
statements_self (s ∷ ss) p = λ i. p.0 i ∷ statements_self ss p.1 i

-- it keeps a block
block_self : (b : Block) → InSuite IsSelf b → (standing_block b).self ≡ b
block_self b p =
    ap (λ x. x.self) (fold_out-Block (Standing What) (Standing Arm) (Standing Block) (Standing Stmt)
    what_standing arm_standing block_standing stmt_standing b)
    ∙ (λ i. roll-Block (record { stmts = statements_self (out-Block b).stmts p i }))
    ∙ roll-out-Block b

-- it keeps an arm
arm_self : (a : Arm) → InSuite IsSelf (out-Arm a).body → (standing_arm a).self ≡ a
arm_self a p =
    ap (λ x. x.self) (fold_out-Arm (Standing What) (Standing Arm) (Standing Block) (Standing Stmt)
    what_standing arm_standing block_standing stmt_standing a)
    ∙ (λ i. roll-Arm (record {
      line = (out-Arm a).line;
      test = (out-Arm a).test;
      body = block_self (out-Arm a).body p i;
    }))
    ∙ roll-out-Arm a

-- it keeps several arms
arms_self : (arms : List Arm) → Each (λ a. InSuite IsSelf (out-Arm a).body) arms
    → map own (map standing_arm arms) ≡ arms
arms_self [] p = refl
arms_self (a ∷ arms) p = λ i. arm_self a p.0 i ∷ arms_self arms p.1 i

-- it keeps one level
level_self : (y : What-F What Arm Block Stmt) → InSuites IsSelf y
    → map-What (Standing What) (Standing Arm) (Standing Block) (Standing Stmt) What Arm Block Stmt
    own own own own (level y) ≡ y
level_self (What-F.Expr e) p = refl
level_self (What-F.Assign targets e) p = refl
level_self (What-F.Aug name op e) p = refl
level_self (What-F.If arms None) p = λ i. What-F.If (arms_self arms p.0 i) None
level_self (What-F.If arms (Some otherwise)) p =
    λ i. What-F.If (arms_self arms p.0 i) (Some (block_self otherwise p.1 i))
level_self (What-F.While test body) p = λ i. What-F.While test (block_self body p i)
level_self (What-F.For targets e body) p = λ i. What-F.For targets e (block_self body p i)
level_self (What-F.Return e) p = refl
level_self What-F.Break p = refl
level_self What-F.Continue p = refl
level_self What-F.Pass p = refl
level_self (What-F.Assert test message) p = refl

-- it keeps what a statement does
what_self : (w : What) → InSuites IsSelf (out-What w) → (standing_what w).self ≡ w
what_self w p =
    ap (λ x. x.self) (fold_out-What (Standing What) (Standing Arm) (Standing Block) (Standing Stmt)
    what_standing arm_standing block_standing stmt_standing w)
    ∙ ap roll-What (level_self (out-What w) p)
    ∙ roll-out-What w

-- it keeps each statement
standing_self : (s : Stmt) → (standing s).self ≡ s
standing_self =
    by_suites IsSelf (λ s p.
    ap (λ x. x.self) (fold_out-Stmt (Standing What) (Standing Arm) (Standing Block) (Standing Stmt)
    what_standing arm_standing block_standing stmt_standing s)
    ∙ (λ i. roll-Stmt (record { line = s.line; what = what_self s.what p i })))

-- it keeps all
all_self : (ss : List Stmt) → Each IsSelf ss
all_self [] = tt
all_self (s ∷ ss) = (standing_self s, all_self ss)

-- what stands in statements
each_contents : (ss : List Stmt) → headed_each (map standing ss) ≡ contents ss
unfolding inner
each_contents [] = refl
each_contents (s ∷ ss) =
    λ i. headed (standing_self s i ∷ statements_self ss (all_self ss) i)
    (followed (inner s) (each_contents ss i))

-- what stands in a block
block_out : (b : Block) → (standing_block b).contents ≡ block_contents b
block_out b =
    ap (λ x. x.contents) (fold_out-Block (Standing What) (Standing Arm) (Standing Block)
    (Standing Stmt) what_standing arm_standing block_standing stmt_standing b)
    ∙ each_contents (out-Block b).stmts

-- what stands in an arm: its test, and its suite
pub arm_out : (a : Arm)
    → arm_contents a ≡ followed (expression (out-Arm a).test) (block_contents (out-Arm a).body)
unfolding arm_contents
arm_out a =
    ap (λ x. x.contents) (fold_out-Arm (Standing What) (Standing Arm) (Standing Block)
    (Standing Stmt) what_standing arm_standing block_standing stmt_standing a)
    ∙ ap (followed (expression (out-Arm a).test)) (block_out (out-Arm a).body)

-- what stands in arms
arms_out : (arms : List Arm) → in_order (map standing_arm arms) ≡ arms_contents arms
unfolding arm_contents
arms_out [] = refl
arms_out (a ∷ arms) = ap (followed (arm_contents a)) (arms_out arms)

-- what stands in one level
level_contents : (y : What-F What Arm Block Stmt) → what_contents (level y) ≡ what_inner y
level_contents (What-F.Expr e) = refl
level_contents (What-F.Assign targets e) = refl
level_contents (What-F.Aug name op e) = refl
level_contents (What-F.If arms None) = λ i. followed (arms_out arms i) nothing
level_contents (What-F.If arms (Some otherwise)) =
    λ i. followed (arms_out arms i) (block_out otherwise i)
level_contents (What-F.While test body) = ap (followed (expression test)) (block_out body)
level_contents (What-F.For targets e body) = ap (followed (expression e)) (block_out body)
level_contents (What-F.Return e) = refl
level_contents What-F.Break = refl
level_contents What-F.Continue = refl
level_contents What-F.Pass = refl
level_contents (What-F.Assert test message) = refl

-- what stands in a statement, by its first level
pub inner_out : (s : Stmt) → inner s ≡ what_inner (out-What s.what)
unfolding inner
inner_out s =
    ap (λ x. x.contents) (fold_out-Stmt (Standing What) (Standing Arm) (Standing Block)
    (Standing Stmt) what_standing arm_standing block_standing stmt_standing s)
    ∙ ap (λ x. x.contents) (fold_out-What (Standing What) (Standing Arm) (Standing Block)
    (Standing Stmt) what_standing arm_standing block_standing stmt_standing s.what)
    ∙ level_contents (out-What s.what)

-- Q is kept by all of which contents are made
pub record IsKeptBy (Q : Contents → Type 0) : Type 0 where
  pub none : Q nothing
  pub one : (e : Expr) → Q (expression e)
  pub both : (a b : Contents) → Q a → Q b → Q (followed a b)
  pub first : (s : Stmt) (ss : List Stmt) → Q (followed (inner s) (contents ss))
      → Q (contents (s ∷ ss))

module _ (Q : Contents → Type 0) (kept : IsKeptBy Q) where
  -- Q of the contents of a statement
  abbrev OfInner : Stmt → Type 0
  OfInner s = Q (inner s)

  -- Q of statements
  of_each : (ss : List Stmt) → Each OfInner ss → Q (contents ss)
  of_each [] p = kept.none
  of_each (s ∷ ss) p = kept.first s ss (kept.both (inner s) (contents ss) p.0 (of_each ss p.1))

  -- Q of an arm whose suite has it
  of_arm : (a : Arm) → InSuite OfInner (out-Arm a).body → Q (arm_contents a)
  of_arm a p =
      subst Q (sym (arm_out a)) (kept.both (expression (out-Arm a).test)
      (block_contents (out-Arm a).body) (kept.one (out-Arm a).test)
      (of_each (out-Block (out-Arm a).body).stmts p))

  -- Q of arms whose suites have it
  of_arms : (arms : List Arm) → Each (λ a. InSuite OfInner (out-Arm a).body) arms
      → Q (arms_contents arms)
  of_arms [] p = kept.none
  of_arms (a ∷ arms) p =
      kept.both (arm_contents a) (arms_contents arms) (of_arm a p.0) (of_arms arms p.1)

  -- Q of an expression that may be missing
  of_maybe : (e : Option Expr) → Q (maybe_expression e)
  of_maybe None = kept.none
  of_maybe (Some e) = kept.one e

  -- Q of a block that may be missing
  of_maybe_block : (b : Option Block) → Maybe (InSuite OfInner) b → Q (maybe_block b)
  of_maybe_block None p = kept.none
  of_maybe_block (Some b) p = of_each (out-Block b).stmts p

  -- Q of one level
  of_level : (y : What-F What Arm Block Stmt) → InSuites OfInner y → Q (what_inner y)
  of_level (What-F.Expr e) p = kept.one e
  of_level (What-F.Assign targets e) p = kept.one e
  of_level (What-F.Aug name op e) p = kept.one e
  of_level (What-F.If arms otherwise) p =
      kept.both (arms_contents arms) (maybe_block otherwise) (of_arms arms p.0)
      (of_maybe_block otherwise p.1)
  of_level (What-F.While test body) p =
      kept.both (expression test) (block_contents body) (kept.one test)
      (of_each (out-Block body).stmts p)
  of_level (What-F.For targets e body) p =
      kept.both (expression e) (block_contents body) (kept.one e)
      (of_each (out-Block body).stmts p)
  of_level (What-F.Return e) p = of_maybe e
  of_level What-F.Break p = kept.none
  of_level What-F.Continue p = kept.none
  of_level What-F.Pass p = kept.none
  of_level (What-F.Assert test message) p =
      kept.both (expression test) (maybe_expression message) (kept.one test) (of_maybe message)

  -- Q of the contents of each statement
  pub of_inner : (s : Stmt) → Q (inner s)
  of_inner =
      by_suites OfInner (λ s p. subst Q (sym (inner_out s)) (of_level (out-What s.what) p))

  -- Q of all
  all_inner : (ss : List Stmt) → Each OfInner ss
  all_inner [] = tt
  all_inner (s ∷ ss) = (of_inner s, all_inner ss)

  -- Q of the contents of each list of statements
  pub of_contents : (ss : List Stmt) → Q (contents ss)
  of_contents ss = of_each ss (all_inner ss)

  -- Q of the contents of each arm
  pub of_arm_contents : (a : Arm) → Q (arm_contents a)
  of_arm_contents a = of_arm a (all_inner (out-Block (out-Arm a).body).stmts)
