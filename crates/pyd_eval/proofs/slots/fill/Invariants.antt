use Rattle.std.proofs.Common.{◌≡◌, ◌-◌, ◌++◌, length, replicate, None}
use Rattle.pyd_eval.proofs.slots.fill.Given as goal

abbrev pub decreases-loop-slots : goal.decreases-loop-slots
decreases-loop-slots l = l.count - length l.slots.items

abbrev pub invariant-loop-slots : goal.invariant-loop-slots
invariant-loop-slots l =
    l.slots.items ++ replicate (l.count - length l.slots.items) None
    ≡ l.initial.slots.items ++ replicate (l.count - length l.initial.slots.items) None
