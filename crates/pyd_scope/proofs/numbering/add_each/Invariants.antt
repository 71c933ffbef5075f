-- What was put at the end, and then what is left, is all that is to be put there.
use Rattle.std.proofs.Common.{◌≡◌, drop}
use Rattle.pyd_scope.specs.declared.cells.Suite.TheVariants.{Body}
use Rattle.pyd_scope.specs.Cells.{cells_of, added, stmts_from, stmt_cells}
use Rattle.pyd_scope.proofs.numbering.add_each.Given as goal

abbrev pub invariant-loop-at : goal.invariant-loop-at
invariant-loop-at l =
    added (cells_of l.out) (stmts_from (λ s. stmt_cells s.now) Body l.at (drop l.at l.stmts))
    ≡ added (cells_of l.initial.out) (stmts_from (λ s. stmt_cells s.now) Body 0 l.stmts)
