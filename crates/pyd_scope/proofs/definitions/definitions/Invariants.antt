use Rattle.std.proofs.Common.{◌≡◌, ◌++◌, drop, true}
use Rattle.std.specs.List.{flat_map}
use Rattle.pyd_names.specs.Binding as names
use Rattle.pyd_scope.specs.Once.{has_once}
use Rattle.pyd_scope.specs.Rules as rule
use Rattle.pyd_scope.proofs.definitions.definitions.Given as goal

abbrev pub invariant-loop-item : goal.invariant-loop-item
invariant-loop-item l =
    flat_map rule.definition (names.lines_from (has_once l.once) true l.item-items)
    ≡ l.out ++ flat_map rule.definition (names.lines_from (has_once l.once) l.early (drop l.item-index l.item-items))
