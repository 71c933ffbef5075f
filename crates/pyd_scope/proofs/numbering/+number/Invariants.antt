-- What was put at the end, and then what is left, is all that is to be put there.
use Rattle.std.proofs.Common.{◌≡◌, drop}
use Rattle.pyd_scope.specs.Cells.{cells_of, added, stmts_from, stmt_cells, arms_from, arm_cells}
use Rattle.pyd_scope.proofs.numbering.+number.Given as goal

abbrev pub invariant-add_stmts-loop-at : goal.invariant-add_stmts-loop-at
invariant-add_stmts-loop-at l =
    added (cells_of l.out) (stmts_from stmt_cells l.suite l.at (drop l.at l.stmts))
    ≡ added (cells_of l.initial.out) (stmts_from stmt_cells l.suite 0 l.stmts)

abbrev pub invariant-add_arms-loop-at : goal.invariant-add_arms-loop-at
invariant-add_arms-loop-at l =
    added (cells_of l.out) (arms_from arm_cells l.stmt l.at (drop l.at l.arms))
    ≡ added (cells_of l.initial.out) (arms_from arm_cells l.stmt 0 l.arms)
