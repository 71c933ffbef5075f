-- What was there, and then the members so far.
use Rattle.std.proofs.Common.{◌≡◌, ◌++◌, take}
use Rattle.pyd_ops.proofs.joining.append.Given as goal

abbrev pub invariant-loop-member : goal.invariant-loop-member
invariant-loop-member l = l.members ≡ l.initial.members ++ take l.member-index l.more
