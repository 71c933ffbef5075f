use Rattle.std.proofs.Common.{[], ◌∷◌, ◌++◌, List, Bor, map, ap, ◌∙◌}
use Rattle.pyd_tree.specs.declared.statement.Stmt.{Stmt}
use Rattle.pyd_scope.specs.declared.cells.Columns.{Columns}
use Rattle.pyd_scope.specs.declared.cells.Suite.TheVariants.{Body}
use Rattle.pyd_scope.specs.Numbering.{start}
use Rattle.pyd_scope.specs.Cells.{Cells, Making, cells_of, added, stmts_from, stmt_cells}
use Rattle.pyd_scope.proofs.Indexes.{map-push, borrowed_stmts}
use Rattle.pyd_scope.proofs.index.add_module.Goals as goal

pub returns : goal.returns
returns c =
    ap (λ (xs : List Columns). map cells_of xs) c.in_ok-push.ensures.items
    ∙ map-push cells_of c.args.routines.now.items c.add_each.new.out
    ∙ ap (λ (z : Cells). map cells_of c.args.routines.now.items ++ z ∷ [])
    (c.in_ok-add_each.ensures
    ∙ ap (λ (z : Cells). added z (stmts_from (λ (s : Bor Stmt). stmt_cells s.now) Body 0 c.args.stmts.now))
    c.no_columns-columns.ensures
    ∙ ap (λ (m : Making). m start) (borrowed_stmts Body 0 c.args.stmts.now))
