use Rattle.std.proofs.Common.{◌≡◌, ◌++◌, drop}
use Rattle.std.specs.List.{flat_map}
use Rattle.pyd_names.specs.Binding as names
use Rattle.pyd_scope.proofs.once.statement_names.Given as goal

abbrev pub invariant-loop-item : goal.invariant-loop-item
invariant-loop-item l = names.names_of (flat_map names.item_bindings l.item-items) ≡ l.out ++ names.names_of (flat_map names.item_bindings (drop l.item-index l.item-items))
