-- The jumps of both kinds, as one.
use Rattle.std.specs.Prelude.{ℕ, List}
use Rattle.pyd_tree.specs.declared.statement.Stmt.{Stmt}
use Rattle.pyd_tree.specs.declared.statement.Block.{Block}
use Rattle.pyd_tree.specs.declared.statement.Arm.{Arm}
use Rattle.pyd_tree.specs.declared.statement.What.TheOpen.{What-F}
use Rattle.pyd_scope.specs.declared.jumps.Jump.{Jump}
use Rattle.pyd_scope.specs.declared.jumps.Jump.TheVariants.{Return, Break}
use Rattle.pyd_scope.specs.Jumps.{return_step, break_step, in_statement, in_arm, in_block}

-- one level of a statement in its line
abbrev pub jump_step : Jump → What-F (ℕ → List ℕ) (List ℕ) (List ℕ) (List ℕ) → ℕ → List ℕ
jump_step Return = return_step
jump_step Break = break_step

-- the lines of the jumps in a statement
abbrev pub jumps : Jump → Stmt → List ℕ
jumps jump = in_statement (jump_step jump)

-- the lines of those in an arm
abbrev pub jumps_in_arm : Jump → Arm → List ℕ
jumps_in_arm jump = in_arm (jump_step jump)

-- the lines of those in a suite
abbrev pub jumps_in_block : Jump → Block → List ℕ
jumps_in_block jump = in_block (jump_step jump)
