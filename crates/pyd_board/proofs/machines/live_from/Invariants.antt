use Rattle.std.proofs.Common.{◌≡◌, drop}
use Rattle.std.specs.List.{position_from}
use Rattle.pyd_board.specs.Placing as spec
use Rattle.pyd_board.proofs.machines.live_from.Given as goal

abbrev pub invariant-loop-machine : goal.invariant-loop-machine
invariant-loop-machine l = spec.live_from l.alive l.place ≡ position_from (λ a. a) l.machine (drop l.machine l.circle)
