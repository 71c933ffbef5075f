-- The module statements so far, and then those that are left, are all.
use Rattle.std.proofs.Common.{◌≡◌, ◌++◌, true, map, drop}
use Rattle.std.specs.List.{filter_map}
use Rattle.pyd_names.specs.Binding.{statement_in, lines_from}
use Rattle.pyd_names.specs.Once.{has_once}
use Rattle.pyd_names.proofs.module.module_statements.Given as goal

abbrev pub invariant-loop-item : goal.invariant-loop-item
invariant-loop-item l =
    map (λ s. s.now) l.out.items ++ filter_map statement_in (lines_from (has_once l.once) l.early (drop l.item-index l.item-items))
    ≡ filter_map statement_in (lines_from (has_once l.once) true l.item-items)
