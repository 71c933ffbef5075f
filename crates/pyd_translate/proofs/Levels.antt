-- What statements mean, level by level.
use Rattle.std.proofs.Common.{◌≡◌, ℕ, map, Some, None, refl, ap, ◌∙◌}
use Rattle.std.specs.Prelude.{option_map}
use Rattle.pyd_tree.specs.declared.statement.What.{What, out-What}
use Rattle.pyd_tree.specs.declared.statement.What.TheOpen.{What-F}
use Rattle.pyd_tree.specs.declared.statement.What.TheFolds.{map-What, fold_out-What}
use Rattle.pyd_tree.specs.declared.statement.Arm.{Arm}
use Rattle.pyd_tree.specs.declared.statement.Block.{Block}
use Rattle.pyd_tree.specs.declared.statement.Stmt.{Stmt}
use Rattle.pyd_meaning.specs.Evaluation.{step}
use Rattle.pyd_meaning.specs.Names.{Names}
use Rattle.pyd_meaning.specs.Setting.{Place, place_of, Setting}
use Rattle.pyd_meaning.specs.Completion.{Action}
use Rattle.pyd_meaning.specs.Statement.{ArmAction, what_step, in_line, arm_step, block_step, statement_step, action_of, what_action, block_action, arm_action}
use Rattle.pyd_meaning.proofs.Statements.{statement}

module _ (setting : Setting) where
  -- one level of a statement, its parts replaced by what they do
  abbrev pub replaced : What-F What Arm Block Stmt → What-F (ℕ → Action) ArmAction Action Action
  replaced (What-F.Expr e) = What-F.Expr e
  replaced (What-F.Assign targets e) = What-F.Assign targets e
  replaced (What-F.Aug name op e) = What-F.Aug name op e
  replaced (What-F.If arms last) =
      What-F.If (map (arm_action setting) arms) (option_map (block_action setting) last)
  replaced (What-F.While test body) = What-F.While test (block_action setting body)
  replaced (What-F.For targets e body) = What-F.For targets e (block_action setting body)
  replaced (What-F.Return e) = What-F.Return e
  replaced What-F.Break = What-F.Break
  replaced What-F.Continue = What-F.Continue
  replaced What-F.Pass = What-F.Pass
  replaced (What-F.Assert test message) = What-F.Assert test message

  -- what one level of a statement does at its place
  abbrev pub level_action : What-F What Arm Block Stmt → Place → Action
  level_action y at = what_step setting (replaced y) at

  mapped : (y : What-F What Arm Block Stmt)
      → map-What What Arm Block Stmt (ℕ → Action) ArmAction Action Action
      (what_action setting) (arm_action setting) (block_action setting) (action_of setting) y
      ≡ replaced y
  mapped (What-F.Expr e) = refl
  mapped (What-F.Assign targets e) = refl
  mapped (What-F.Aug name op e) = refl
  mapped (What-F.If arms None) = refl
  mapped (What-F.If arms (Some last)) = refl
  mapped (What-F.While test body) = refl
  mapped (What-F.For targets e body) = refl
  mapped (What-F.Return e) = refl
  mapped What-F.Break = refl
  mapped What-F.Continue = refl
  mapped What-F.Pass = refl
  mapped (What-F.Assert test message) = refl

  what_level : (w : What) (line : ℕ) (names : Names)
      → what_action setting w line names ≡ level_action (out-What w) (place_of line) names
  unfolding what_action arm_action block_action action_of
  what_level w line names =
      ap (λ (f : ℕ → Action). f line names)
      (fold_out-What (ℕ → Action) ArmAction Action Action
      (in_line setting) (arm_step setting) block_step statement_step w)
      ∙ ap (λ y. what_step setting y (place_of line) names) (mapped (out-What w))

  -- a statement is a step, and then its level
  pub action_level : (s : Stmt) (names : Names)
      → action_of setting s names ≡ step (level_action (out-What s.what) (place_of s.line) names)
  action_level s names = statement setting s names ∙ ap step (what_level s.what s.line names)
