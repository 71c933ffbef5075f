use Rattle.std.proofs.Common.{◌≡◌, take}
use Rattle.std.specs.List.{flat_map}
use Rattle.pyd_scope.specs.Least.{least}
use Rattle.pyd_scope.specs.Rules as rule
use Rattle.pyd_scope.proofs.jumps.return_outside.Given as goal

abbrev pub invariant-loop-item : goal.invariant-loop-item
invariant-loop-item l = l.line ≡ least (flat_map rule.returns_outside (take l.item-index l.item-items))
