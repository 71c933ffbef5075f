-- What is there, and then what is left, is all.
use Rattle.std.proofs.Common.{◌≡◌, ◌-◌, ◌++◌, length, replicate, None}
use Rattle.pyd_desk.proofs.starting.no_records.Given as goal

abbrev pub decreases-loop-records : goal.decreases-loop-records
decreases-loop-records l = l.count - length l.records.items

abbrev pub invariant-loop-records : goal.invariant-loop-records
invariant-loop-records l =
    l.records.items ++ replicate (l.count - length l.records.items) None ≡ replicate l.count None
