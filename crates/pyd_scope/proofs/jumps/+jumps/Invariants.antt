use Rattle.std.proofs.Common.{◌≡◌, map, take}
use Rattle.pyd_names.specs.Binding.{joined}
use Rattle.pyd_scope.specs.Least.{least}
use Rattle.pyd_scope.specs.Leaving as spec
use Rattle.pyd_scope.proofs.jumps.+jumps.Given as goal

abbrev pub invariant-jump_in_arms-loop-arm : goal.invariant-jump_in_arms-loop-arm
invariant-jump_in_arms-loop-arm l = l.line ≡ least (joined (map (spec.jumps_in_arm l.jump) (take l.arm-index l.arms)))

abbrev pub invariant-jump_in_block-loop-stmt : goal.invariant-jump_in_block-loop-stmt
invariant-jump_in_block-loop-stmt l = l.line ≡ least (joined (map (spec.jumps l.jump) (take l.stmt-index l.stmt-items)))
