use Rattle.std.proofs.Common.{◌≡◌, drop}
use Rattle.std.specs.List.{flat_map}
use Rattle.pyd_scope.specs.Least.{least, lesser}
use Rattle.pyd_scope.specs.Rules as rule
use Rattle.pyd_scope.proofs.parameters.twice_parameter.Given as goal

abbrev pub invariant-loop-item : goal.invariant-loop-item
invariant-loop-item l = least (flat_map rule.twice_in l.item-items) ≡ lesser l.line (least (flat_map rule.twice_in (drop l.item-index l.item-items)))
