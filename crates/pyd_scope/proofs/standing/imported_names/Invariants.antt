use Rattle.std.proofs.Common.{◌≡◌, ◌++◌, drop}
use Rattle.std.specs.List.{flat_map}
use Rattle.pyd_names.specs.Binding as names
use Rattle.pyd_scope.proofs.standing.imported_names.Given as goal

abbrev pub invariant-loop-item : goal.invariant-loop-item
invariant-loop-item l = flat_map names.imports_in l.item-items ≡ l.made ++ flat_map names.imports_in (drop l.item-index l.item-items)
