-- What was put at the end, and then what is left, is all that the items bind.
use Rattle.std.proofs.Common.{◌≡◌, ◌++◌, drop}
use Rattle.std.specs.List.{flat_map}
use Rattle.pyd_names.specs.Binding.{item_bindings}
use Rattle.pyd_names.proofs.module.bound_once.Given as goal

abbrev pub invariant-loop-item : goal.invariant-loop-item
invariant-loop-item l = l.bound ++ flat_map item_bindings (drop l.item-index l.item-items) ≡ flat_map item_bindings l.item-items
