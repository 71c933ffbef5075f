-- The cells so far, and then those that are left, are all.
use Rattle.std.proofs.Common.{◌≡◌, ◌++◌, map, drop}
use Rattle.pyd_scope.specs.Cells.{cells_of}
use Rattle.pyd_scope.specs.Indexing.{function_cells}
use Rattle.pyd_scope.proofs.index.add_functions.Given as goal

abbrev pub invariant-loop-func : goal.invariant-loop-func
invariant-loop-func l =
    map cells_of l.routines.items ++ map (λ f. function_cells f.now) (drop l.func-index l.funcs)
    ≡ map cells_of l.initial.routines.items ++ map (λ f. function_cells f.now) l.funcs
