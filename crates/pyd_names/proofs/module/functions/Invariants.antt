-- The functions so far, and then those that are left, are all.
use Rattle.std.proofs.Common.{◌≡◌, ◌++◌, map, drop}
use Rattle.std.specs.List.{filter_map}
use Rattle.pyd_names.specs.Binding.{function_in}
use Rattle.pyd_names.proofs.module.functions.Given as goal

abbrev pub invariant-loop-item : goal.invariant-loop-item
invariant-loop-item l =
    map (λ f. f.now) l.out.items ++ filter_map function_in (drop l.item-index l.item-items) ≡ filter_map function_in l.item-items
