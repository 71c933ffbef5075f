use Rattle.std.proofs.Common.{◌≡◌, List, length, ap, sym, refl, ◌∙◌}
use Rattle.std.proofs.lemmas.Result.{IfOk-equal}
use Rattle.pyd_tree.specs.declared.statement.Stmt.{Stmt}
use Rattle.pyd_tree.specs.declared.statement.Arm.{out-Arm}
use Rattle.pyd_scope.specs.declared.cells.Suite.TheVariants as suite
use Rattle.pyd_scope.specs.Cells.{Cells, cells_of, added, stmts_from, stmt_cells, header_cells, block_cells}
use Rattle.pyd_scope.specs.Closing.{IsClosedStmt}
use Rattle.pyd_scope.proofs.StatementLevels.{block_out, arm_out}
use Rattle.pyd_scope.proofs.Walking.{when_ok}
use Rattle.pyd_scope.proofs.WalkingStatements.{added_then, stmt_closed}
use Rattle.pyd_scope.proofs.numbering.+number.Goals as goal

pub add_block-returns : goal.add_block-returns
add_block-returns t c =
    IfOk-equal _ _ _ _ c.add_stmts.ensures
    (ap (λ (ss : List Stmt). added (cells_of c.args.out.now) (stmts_from stmt_cells c.args.suite 0 ss))
    c.as_slice.ensures
    ∙ ap (added (cells_of c.args.out.now)) (sym (block_out c.args.block.now c.args.suite)))

pub add_arm-returns : goal.add_arm-returns
add_arm-returns t c =
    IfOk-equal _ _ _ _ c.add_block.ensures
    (ap (λ (z : Cells). added z (block_cells (out-Arm c.args.arm.now).body (suite.Arm c.args.stmt c.args.at)))
    c.in_ok-add_header.ensures
    ∙ added_then (cells_of c.args.out.now)
    (header_cells c.args.stmt c.args.at (out-Arm c.args.arm.now).test)
    (block_cells (out-Arm c.args.arm.now).body (suite.Arm c.args.stmt c.args.at))
    ∙ ap (added (cells_of c.args.out.now)) (sym (arm_out c.args.arm.now c.args.stmt c.args.at)))

pub add_stmt-returns : goal.add_stmt-returns
add_stmt-returns t c =
    when_ok c.close_stmt.result
    (IsClosedStmt c.in_ok-place.place c.args.suite c.args.at c.in_ok-expression.expression
    (cells_of c.add_what.new.out) (cells_of c.close_stmt.new.out))
    (cells_of c.close_stmt.new.out
    ≡ added (cells_of c.args.out.now) (stmt_cells c.args.stmt.now c.args.suite c.args.at))
    (λ closed. stmt_closed c.args.stmt.now c.args.suite c.args.at (cells_of c.args.out.now)
    (record { statements = c.push.new.self.items; expressions = c.args.out.now.expressions.items })
    (cells_of c.add_what.new.out) (cells_of c.close_stmt.new.out) c.in_ok-place.place
    c.in_ok-expression.expression c.in_ok-place.place
    (c.in_ok-place.ensures ∙ ap length c.as_slice.ensures.value)
    (c.in_ok-expression.ensures ∙ ap length c.as_slice-2.ensures.value) refl
    c.in_ok-push.ensures.items refl c.in_ok-add_what.ensures closed)
    c.close_stmt.ensures
