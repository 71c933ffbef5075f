use Rattle.std.proofs.Common.{◌≡◌, drop, true}
use Rattle.pyd_scope.specs.Least.{least, lesser}
use Rattle.pyd_scope.specs.Rules as rule
use Rattle.pyd_scope.proofs.heads.late_def.Given as goal

abbrev pub invariant-loop-item : goal.invariant-loop-item
invariant-loop-item l = least (rule.late_from true l.item-items) ≡ lesser l.line (least (rule.late_from l.early (drop l.item-index l.item-items)))
