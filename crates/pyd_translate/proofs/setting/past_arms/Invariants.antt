use Rattle.std.proofs.Common.{◌≡◌, drop}
use Rattle.pyd_scope.specs.Numbering.{arms_contents, past}
use Rattle.pyd_translate.specs.Flows.{StandsIn, point_of}
use Rattle.pyd_translate.proofs.setting.past_arms.Given as goal

abbrev pub invariant-loop-arm : goal.invariant-loop-arm
invariant-loop-arm l =
    StandsIn l.at (arms_contents (drop l.arm-index l.arms)) (point_of l.behind)
    × (past (arms_contents (drop l.arm-index l.arms)) (point_of l.behind)
    ≡ past (arms_contents l.arms) (point_of l.fn.point))
