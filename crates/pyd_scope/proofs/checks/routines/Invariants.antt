use Rattle.std.proofs.Common.{◌≡◌, ◌++◌, drop}
use Rattle.std.specs.List.{flat_map}
use Rattle.pyd_scope.specs.Parts as parts
use Rattle.pyd_scope.proofs.checks.routines.Given as goal

abbrev pub invariant-loop-item : goal.invariant-loop-item
invariant-loop-item l = l.initial.out ++ flat_map parts.routines_in l.item-items ≡ l.out ++ flat_map parts.routines_in (drop l.item-index l.item-items)
