-- Losses have come so far.
use Rattle.std.proofs.Common.{◌-◌, length}
use Rattle.pyd_here.proofs.Losses.{HasGone}
use Rattle.pyd_here.proofs.losing.lose_all.Given as goal

abbrev pub decreases-loop-machine : goal.decreases-loop-machine
decreases-loop-machine l = length l.core.setup.losses - l.core.lost

abbrev pub invariant-loop-machine : goal.invariant-loop-machine
invariant-loop-machine l = HasGone l.initial.core l.core
