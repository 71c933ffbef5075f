use Rattle.std.proofs.Common.{◌≡◌, drop}
use Rattle.std.specs.List.{flat_map}
use Rattle.pyd_names.specs.Binding.{is_among, imports_in}
use Rattle.pyd_scope.proofs.resolve.is_imported.Given as goal

abbrev pub invariant-loop-item : goal.invariant-loop-item
invariant-loop-item l = is_among (flat_map imports_in l.items) l.name ≡ is_among (flat_map imports_in (drop l.item-index l.items)) l.name
