use Rattle.std.proofs.Common.{◌≡◌, [], drop}
use Rattle.pyd_scope.specs.Least.{least, lesser}
use Rattle.pyd_scope.specs.Rules as rule
use Rattle.pyd_scope.proofs.marks.decorator.Given as goal

abbrev pub invariant-loop-item : goal.invariant-loop-item
invariant-loop-item l = least (rule.bad_from [] l.item-items) ≡ lesser l.line (least (rule.bad_from l.above (drop l.item-index l.item-items)))
