-- What is there, and then what is left, is all.
use Rattle.std.proofs.Common.{◌≡◌, ◌-◌, ◌++◌, length, replicate}
use Rattle.std.specs.FinMap as map
use Rattle.pyd_desk.proofs.starting.empty_stores.Given as goal

abbrev pub decreases-loop-alloc : goal.decreases-loop-alloc
decreases-loop-alloc l = l.count - length l.stores.items

abbrev pub invariant-loop-alloc : goal.invariant-loop-alloc
invariant-loop-alloc l =
    l.stores.items ++ replicate (l.count - length l.stores.items) map.empty ≡ replicate l.count map.empty
