-- The constants so far, and then those that are left, are all.
use Rattle.std.proofs.Common.{◌≡◌, ◌∷◌, ◌++◌, true, drop}
use Rattle.std.specs.List.{filter_map}
use Rattle.pyd_names.specs.Binding.{constant_in, lines_from, name_constant}
use Rattle.pyd_names.specs.Once.{has_once}
use Rattle.pyd_names.proofs.module.constants.Given as goal

abbrev pub invariant-loop-item : goal.invariant-loop-item
invariant-loop-item l =
    l.out ++ filter_map constant_in (lines_from (has_once l.once) l.early (drop l.item-index l.item-items))
    ≡ name_constant ∷ filter_map constant_in (lines_from (has_once l.once) true l.item-items)
