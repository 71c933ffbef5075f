-- The marks so far, and then those of the items that are left, are all.
use Rattle.std.proofs.Common.{◌≡◌, ◌++◌, true, map, drop}
use Rattle.pyd_names.specs.Binding.{is_constant, lines_from}
use Rattle.pyd_names.specs.Once.{has_once}
use Rattle.pyd_names.proofs.module.constant_marks.Given as goal

abbrev pub invariant-loop-item : goal.invariant-loop-item
invariant-loop-item l =
    l.marks.items ++ map is_constant (lines_from (has_once l.once) l.early (drop l.item-index l.item-items))
    ≡ map is_constant (lines_from (has_once l.once) true l.item-items)
