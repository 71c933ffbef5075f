-- Losses by the seat have come so far.
use Rattle.std.proofs.Common.{◌-◌, length}
use Rattle.pyd_core.proofs.DueLosses.{HasLost}
use Rattle.pyd_core.proofs.keeper.Core.lose_all.Given as goal

abbrev pub decreases-loop-machine : goal.decreases-loop-machine
decreases-loop-machine l = length l.self.setup.losses - l.self.lost

abbrev pub invariant-loop-machine : goal.invariant-loop-machine
invariant-loop-machine l = HasLost l.seat l.initial.self l.self
