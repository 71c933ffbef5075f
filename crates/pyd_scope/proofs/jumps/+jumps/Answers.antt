use Rattle.std.proofs.Common.{rules, ◌≡◌, ℕ, List, map, ◌∙◌, sym, ap}
use Rattle.pyd_names.specs.Binding.{joined}
use Rattle.pyd_tree.specs.declared.statement.What.{the_lemmas}
use Rattle.pyd_tree.specs.declared.statement.Block.{Block, out-Block, fold_out-Block}
use Rattle.pyd_tree.specs.declared.statement.Arm.{Arm, out-Arm, fold_out-Arm}
use Rattle.pyd_scope.specs.declared.jumps.Jump.{Jump}
use Rattle.pyd_scope.specs.Least.{least, lesser}
use Rattle.pyd_scope.specs.Jumps.{arm_step, block_step, statement_step}
use Rattle.pyd_scope.specs.Leaving as spec
use Rattle.pyd_scope.proofs.Leasts.{least-append, least_joined_more, least_joined_whole}
use Rattle.pyd_scope.proofs.jumps.+jumps.Goals as goal

-- a suite's jumps are those of its statements
in_block : (jump : Jump) (b : Block) → spec.jumps_in_block jump b ≡ joined (map (spec.jumps jump) (out-Block b).stmts)
in_block jump b = fold_out-Block (ℕ → List ℕ) (List ℕ) (List ℕ) (List ℕ) (spec.jump_step jump) arm_step block_step statement_step b

-- an arm's jumps are those of its suite
in_arm : (jump : Jump) (a : Arm) → spec.jumps_in_arm jump a ≡ spec.jumps_in_block jump (out-Arm a).body
in_arm jump a = fold_out-Arm (ℕ → List ℕ) (List ℕ) (List ℕ) (List ℕ) (spec.jump_step jump) arm_step block_step statement_step a

pub least_jump-returns-in-If : goal.least_jump-returns-in-If
least_jump-returns-in-If t c = search (rules, the_lemmas, least-append)

pub jump_in_arms-loop-arm-preserved : goal.jump_in_arms-loop-arm-preserved
jump_in_arms-loop-arm-preserved t c =
    least_joined_more (spec.jumps_in_arm c.args.jump) c.args.arms.now c.loop-arm.arm-index c.arm-item.result c.loop-arm.line c.lesser-line.result
    c.arm-item.is c.loop-arm-test.true c.loop-arm.invariant
    (c.lesser-line.ensures ∙ ap (lesser c.loop-arm.line) (c.jump_in_block.ensures ∙ ap least (sym (in_arm c.args.jump c.arm-item.result))))

pub jump_in_block-loop-stmt-preserved : goal.jump_in_block-loop-stmt-preserved
jump_in_block-loop-stmt-preserved t c =
    least_joined_more (spec.jumps c.args.jump) c.as_slice-stmt-items.result.now c.loop-stmt.stmt-index c.stmt-item.result c.loop-stmt.line c.lesser-line.result
    c.stmt-item.is c.loop-stmt-test.true c.loop-stmt.invariant
    (c.lesser-line.ensures ∙ ap (lesser c.loop-stmt.line) c.least_jump.ensures)

pub jump_in_block-returns : goal.jump_in_block-returns
jump_in_block-returns t c =
    least_joined_whole (spec.jumps c.args.jump) c.as_slice-stmt-items.result.now c.loop-stmt.stmt-index c.loop-stmt.line c.loop-stmt-test.false c.loop-stmt.invariant
    ∙ ap (λ stmts. least (joined (map (spec.jumps c.args.jump) stmts))) c.as_slice-stmt-items.ensures
    ∙ ap least (sym (in_block c.args.jump c.args.block.now))
