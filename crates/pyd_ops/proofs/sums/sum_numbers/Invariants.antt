-- The sum so far and what is left give the whole sum.
use Rattle.std.proofs.Common.{◌≡◌, drop}
use Rattle.pyd_value.specs.declared.value.Value.{Int}
use Rattle.pyd_ops.specs.Calls.{sum_items}
use Rattle.pyd_ops.proofs.sums.sum_numbers.Given as goal

abbrev pub invariant-loop-item : goal.invariant-loop-item
invariant-loop-item l = sum_items (Int l.total) (drop l.item-index l.items) l.line ≡ sum_items (Int l.start) l.items l.line
