-- What was put at the end, and then what is left, is all that is to be put there.
use Rattle.std.proofs.Common.{◌≡◌, ◌++◌, drop}
use Rattle.std.specs.List.{flat_map}
use Rattle.pyd_names.specs.Binding.{statement_bindings, arm_bindings}
use Rattle.pyd_names.proofs.binding.+bind.Given as goal

abbrev pub invariant-add_arms-loop-arm : goal.invariant-add_arms-loop-arm
invariant-add_arms-loop-arm l = l.out ++ flat_map arm_bindings (drop l.arm-index l.arms) ≡ l.initial.out ++ flat_map arm_bindings l.arms

abbrev pub invariant-add_block-loop-stmt : goal.invariant-add_block-loop-stmt
invariant-add_block-loop-stmt l = l.out ++ flat_map statement_bindings (drop l.stmt-index l.stmt-items) ≡ l.initial.out ++ flat_map statement_bindings l.stmt-items
