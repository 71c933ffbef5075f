-- Statements in which nothing is called that prints print nothing.
use Rattle.std.proofs.Common.{◌≡◌, ℕ, List, [], ◌∷◌, ◌++◌, map, refl, sym, ap, subst, ◌∙◌, Option, Some, None}
use Rattle.pyd_value.specs.Truth.{is_true}
use Rattle.pyd_ops.specs.Operators.{binary}
use Rattle.pyd_tree.specs.declared.statement.What.{What, out-What}
use Rattle.pyd_tree.specs.declared.statement.What.TheOpen.{What-F}
use Rattle.pyd_tree.specs.declared.statement.What.TheFolds.{map-What, fold_out-What, fold_out-Arm, fold_out-Block, fold_out-Stmt}
use Rattle.pyd_tree.specs.declared.statement.Arm.{Arm, out-Arm}
use Rattle.pyd_tree.specs.declared.statement.Block.{Block, out-Block}
use Rattle.pyd_tree.specs.declared.statement.Stmt.{Stmt}
use Rattle.pyd_tree.specs.declared.expression.Expr.{Expr}
use Rattle.pyd_names.specs.declared.name_use.NameUse.{NameUse}
use Rattle.pyd_names.specs.declared.name_use.Manner.TheVariants.{Called, Iterated}
use Rattle.pyd_names.specs.Binding.{joined}
use Rattle.pyd_names.specs.Uses.{expression_uses, maybe_uses, uses, what_uses, arm_uses, statement_uses, what_uses_step, arm_uses_step, block_uses_step, statement_uses_step}
use Rattle.pyd_meaning.specs.Evaluation.{Evaluation, settled}
use Rattle.pyd_meaning.specs.Names.{Names}
use Rattle.pyd_meaning.specs.Setting.{Place, place_of, Setting}
use Rattle.pyd_meaning.specs.Reference.{read}
use Rattle.pyd_meaning.specs.Expression.{meaning_of}
use Rattle.pyd_meaning.specs.Assignment.{assign}
use Rattle.pyd_meaning.specs.Statement.{otherwise, value_or_none, action_of, arm_action, block_action}
use Rattle.pyd_meaning.proofs.Statements.{suite, arm}
use Rattle.pyd_translate.proofs.Induction.{Each, InSuite, InSuites, by_suites}
use Rattle.pyd_translate.proofs.Levels.{level_action, action_level}
use Rattle.pyd_translate.proofs.Stays.{each_front, each_back}
use Rattle.pyd_translate.proofs.Silence.{IsSilent, silent-settled, silent-step, silent-then}
use Rattle.pyd_translate.proofs.SilentCalls.{IsQuiet, silent_read}
use Rattle.pyd_translate.proofs.SilentExpressions.{silent_branch, silent_expression}
use Rattle.pyd_translate.proofs.SilentActions.{IsSilentAction, IsSilentArm, silent_in_turn, silent_arms, silent_while, silent_assign, silent_for}

-- one level of a statement as uses
abbrev what_level_uses : What-F What Arm Block Stmt → ℕ → List NameUse
what_level_uses y =
    what_uses_step (map-What What Arm Block Stmt (ℕ → List NameUse) (List NameUse) (List NameUse) (List NameUse)
    what_uses arm_uses uses statement_uses y)

-- the uses in a statement by its level
statement_level : (s : Stmt) → statement_uses s ≡ what_level_uses (out-What s.what) s.line
statement_level s =
    fold_out-Stmt (ℕ → List NameUse) (List NameUse) (List NameUse) (List NameUse)
    what_uses_step arm_uses_step block_uses_step statement_uses_step s
    ∙ ap (λ (f : ℕ → List NameUse). f s.line)
    (fold_out-What (ℕ → List NameUse) (List NameUse) (List NameUse) (List NameUse)
    what_uses_step arm_uses_step block_uses_step statement_uses_step s.what)

-- in a suite by its statements
block_level : (b : Block) → uses b ≡ joined (map statement_uses (out-Block b).stmts)
block_level b =
    fold_out-Block (ℕ → List NameUse) (List NameUse) (List NameUse) (List NameUse)
    what_uses_step arm_uses_step block_uses_step statement_uses_step b

-- in an arm by its test and its suite
arm_level : (a : Arm)
    → arm_uses a ≡ expression_uses (out-Arm a).test (out-Arm a).line Called ++ uses (out-Arm a).body
arm_level a =
    fold_out-Arm (ℕ → List NameUse) (List NameUse) (List NameUse) (List NameUse)
    what_uses_step arm_uses_step block_uses_step statement_uses_step a

module _ (setting : Setting) where
  -- no use is a call of what may print
  abbrev AreQuiet : List NameUse → Type 0
  AreQuiet us = Each (IsQuiet setting) us

  -- a statement prints nothing if no use in it is a call of what may print
  abbrev pub IsQuietly : Stmt → Type 0
  IsQuietly s = AreQuiet (statement_uses s) → IsSilentAction (action_of setting s)

  statements_silent : (ss : List Stmt) → Each IsQuietly ss → AreQuiet (joined (map statement_uses ss))
      → Each IsSilentAction (map (action_of setting) ss)
  statements_silent [] p q = tt
  statements_silent (s ∷ ss) p q = (
    p.0 (each_front (IsQuiet setting) (statement_uses s) (joined (map statement_uses ss)) q),
    statements_silent ss p.1 (each_back (IsQuiet setting) (statement_uses s) (joined (map statement_uses ss)) q),
  )

  suite_silent_if : (b : Block) → InSuite IsQuietly b → AreQuiet (uses b)
      → IsSilentAction (block_action setting b)
  suite_silent_if b p q names =
      subst (λ (m : Evaluation _). IsSilent m) (sym (suite setting b names))
      (silent_in_turn (map (action_of setting) (out-Block b).stmts)
      (statements_silent (out-Block b).stmts p (subst AreQuiet (block_level b) q)) names)

  arm_silent_if : (a : Arm) → InSuite IsQuietly (out-Arm a).body → AreQuiet (arm_uses a)
      → IsSilentArm (arm_action setting a)
  arm_silent_if a p q =
      let test = expression_uses (out-Arm a).test (out-Arm a).line Called in
      let both : AreQuiet (test ++ uses (out-Arm a).body) = subst AreQuiet (arm_level a) q in
      subst IsSilentArm (sym (arm setting a)) (
        silent_expression setting (out-Arm a).test (out-Arm a).line Called refl
            (each_front (IsQuiet setting) test (uses (out-Arm a).body) both) (place_of (out-Arm a).line),
        suite_silent_if (out-Arm a).body p (each_back (IsQuiet setting) test (uses (out-Arm a).body) both),
      )

  arms_silent_if : (choices : List Arm) → Each (λ a. InSuite IsQuietly (out-Arm a).body) choices
      → AreQuiet (joined (map arm_uses choices)) → Each IsSilentArm (map (arm_action setting) choices)
  arms_silent_if [] p q = tt
  arms_silent_if (a ∷ more) p q =
      let rest = joined (map arm_uses more) in (
        arm_silent_if a p.0 (each_front (IsQuiet setting) (arm_uses a) rest q),
        arms_silent_if more p.1 (each_back (IsQuiet setting) (arm_uses a) rest q),
      )

  maybe_silent : (o : Option Expr) (line : ℕ) → AreQuiet (maybe_uses line o) → (at : Place) (names : Names)
      → IsSilent (value_or_none setting o at names)
  maybe_silent None line q at names = silent-settled _
  maybe_silent (Some e) line q at names = silent_expression setting e line Called refl q at names

  level_silent : (y : What-F What Arm Block Stmt) → InSuites IsQuietly y → (line : ℕ)
      → AreQuiet (what_level_uses y line) → IsSilentAction (level_action setting y (place_of line))
  level_silent (What-F.Expr e) p line q names =
      silent-then (meaning_of setting e (place_of line) names) _
      (silent_expression setting e line Called refl q (place_of line) names) (λ v. silent-settled _)
  level_silent (What-F.Assign targets e) p line q names =
      silent-then (meaning_of setting e (place_of line) names) _
      (silent_expression setting e line Called refl q (place_of line) names)
      (λ v. silent-then (assign targets v (place_of line) names) _
      (silent_assign targets v (place_of line) names) (λ bound. silent-settled _))
  level_silent (What-F.Aug name op e) p line q names =
      silent-then (read setting name (place_of line) names) _ (silent_read setting name (place_of line) names)
      (λ a. silent-then (meaning_of setting e (place_of line) names) _
      (silent_expression setting e line Called refl q.1 (place_of line) names)
      (λ b. silent-then (settled (binary op a b line)) _ (silent-settled _) (λ c. silent-settled _)))
  level_silent (What-F.If choices None) p line q names =
      silent_arms (map (arm_action setting) choices) (otherwise None)
      (arms_silent_if choices p.0 (each_front (IsQuiet setting) (joined (map arm_uses choices)) [] q))
      (λ now. silent-settled _) names
  level_silent (What-F.If choices (Some last)) p line q names =
      silent_arms (map (arm_action setting) choices) (otherwise (Some (block_action setting last)))
      (arms_silent_if choices p.0 (each_front (IsQuiet setting) (joined (map arm_uses choices)) (uses last) q))
      (suite_silent_if last p.1 (each_back (IsQuiet setting) (joined (map arm_uses choices)) (uses last) q)) names
  level_silent (What-F.While test body) p line q names =
      let tested = silent_expression setting test line Called refl
      (each_front (IsQuiet setting) (expression_uses test line Called) (uses body) q) (place_of line) in
      silent-then (meaning_of setting test (place_of line) names) _ (tested names)
      (λ v. silent_while setting.limits.turns (place_of line) (meaning_of setting test) (block_action setting body) v
      tested (suite_silent_if body p (each_back (IsQuiet setting) (expression_uses test line Called) (uses body) q)) names)
  level_silent (What-F.For targets e body) p line q names =
      silent-then (meaning_of setting e (place_of line) names) _
      (silent_expression setting e line Iterated refl
      (each_front (IsQuiet setting) (expression_uses e line Iterated) (uses body) q) (place_of line) names)
      (λ v. silent_for setting.limits.turns (place_of line) targets (block_action setting body) _ v 0
      (suite_silent_if body p (each_back (IsQuiet setting) (expression_uses e line Iterated) (uses body) q)) names)
  level_silent (What-F.Return e) p line q names =
      silent-then (value_or_none setting e (place_of line) names) _ (maybe_silent e line q (place_of line) names)
      (λ v. silent-settled _)
  level_silent What-F.Break p line q names = silent-settled _
  level_silent What-F.Continue p line q names = silent-settled _
  level_silent What-F.Pass p line q names = silent-settled _
  level_silent (What-F.Assert test message) p line q names =
      let front = each_front (IsQuiet setting) (expression_uses test line Called) (maybe_uses line message) q in
      let back = each_back (IsQuiet setting) (expression_uses test line Called) (maybe_uses line message) q in
      silent-then (meaning_of setting test (place_of line) names) _
      (silent_expression setting test line Called refl front (place_of line) names)
      (λ v. silent_branch (is_true v) _ _ names (silent-settled _)
      (silent-then (value_or_none setting message (place_of line) names) _
      (maybe_silent message line back (place_of line) names) (λ u. silent-settled _)))

  -- each statement
  silent_statement : (s : Stmt) → IsQuietly s
  silent_statement = by_suites IsQuietly (λ s p q names.
      subst (λ (m : Evaluation _). IsSilent m) (sym (action_level setting s names))
      (silent-step _ (level_silent (out-What s.what) p s.line (subst AreQuiet (statement_level s) q) names)))

  each_statement : (ss : List Stmt) → Each IsQuietly ss
  each_statement [] = tt
  each_statement (s ∷ ss) = (silent_statement s, each_statement ss)

  -- each suite
  pub silent_suite : (b : Block) → AreQuiet (uses b) → IsSilentAction (block_action setting b)
  silent_suite b q = suite_silent_if b (each_statement (out-Block b).stmts) q
