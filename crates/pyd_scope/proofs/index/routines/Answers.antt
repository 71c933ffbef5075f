use Rattle.std.proofs.Common.{[], ◌∷◌, ◌++◌, List, Bor, map, ap, ◌∙◌}
use Rattle.pyd_tree.specs.declared.statement.Stmt.{Stmt}
use Rattle.pyd_tree.specs.declared.file.Func.{Func}
use Rattle.pyd_scope.specs.declared.cells.Columns.{Columns}
use Rattle.pyd_scope.specs.Cells.{cells_of, body_cells}
use Rattle.pyd_scope.specs.Indexing.{function_cells}
use Rattle.pyd_scope.proofs.Indexes.{map-twice}
use Rattle.pyd_scope.proofs.index.routines.Goals as goal

pub returns : goal.returns
returns c =
    c.in_ok-add_functions.ensures
    ∙ (λ i. (c.in_ok-add_module.ensures
    ∙ ap (λ (xs : List Columns). map cells_of xs
    ++ body_cells (map (λ (s : Bor Stmt). s.now) c.as_slice.result.now) ∷ []) c.new-routines.ensures.items
    ∙ ap (λ (ss : List Stmt). body_cells ss ∷ [])
    (ap (λ (xs : List (Bor Stmt)). map (λ (s : Bor Stmt). s.now) xs) c.as_slice.ensures.value
    ∙ c.in_ok-statements.ensures)) i
    ++ (map-twice (λ (f : Bor Func). f.now) function_cells c.as_slice-2.result.now
    ∙ ap (map function_cells)
    (ap (λ (xs : List (Bor Func)). map (λ (f : Bor Func). f.now) xs) c.as_slice-2.ensures.value
    ∙ c.in_ok-funcs.ensures)) i)
