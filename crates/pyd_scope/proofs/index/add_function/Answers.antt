use Rattle.std.proofs.Common.{[], ◌∷◌, ◌++◌, List, map, ap, ◌∙◌}
use Rattle.pyd_scope.specs.declared.cells.Columns.{Columns}
use Rattle.pyd_scope.specs.declared.cells.Suite.TheVariants.{Body}
use Rattle.pyd_scope.specs.Cells.{Cells, cells_of, added, stmts_from, stmt_cells, body_cells}
use Rattle.pyd_scope.proofs.Indexes.{map-push}
use Rattle.pyd_scope.proofs.index.add_function.Goals as goal

pub returns : goal.returns
returns c =
    ap (λ (xs : List Columns). map cells_of xs) c.in_ok-push.ensures.items
    ∙ map-push cells_of c.args.routines.now.items c.add_stmts.new.out
    ∙ ap (λ (z : Cells). map cells_of c.args.routines.now.items ++ z ∷ [])
    (c.in_ok-add_stmts.ensures
    ∙ ap (λ (z : Cells). added z (stmts_from stmt_cells Body 0 c.as_slice.result.now)) c.no_columns-columns.ensures
    ∙ ap body_cells c.as_slice.ensures)
