use Rattle.std.proofs.Common.{◌≡◌, drop, None, cond}
use Rattle.std.specs.List.{list_any}
use Rattle.pyd_scope.specs.Least.{least, lesser}
use Rattle.pyd_scope.specs.Rules as rule
use Rattle.pyd_scope.proofs.heads.not_constant.Given as goal

abbrev pub invariant-loop-item : goal.invariant-loop-item
invariant-loop-item l =
    least (rule.computed_above l.item-items)
    ≡ lesser l.line (lesser (cond (list_any rule.is_head (drop l.item-index l.item-items)) l.above None) (least (rule.computed_above (drop l.item-index l.item-items))))
