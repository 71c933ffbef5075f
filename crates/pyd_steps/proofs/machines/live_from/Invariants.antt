-- No machine lives between the place and the next one.
use Rattle.std.proofs.Common.{◌≡◌, drop}
use Rattle.std.specs.List.{position_from}
use Rattle.pyd_board.specs.Placing as placing
use Rattle.pyd_steps.proofs.machines.live_from.Given as goal

abbrev pub invariant-loop-machine : goal.invariant-loop-machine
invariant-loop-machine l =
    placing.live_from l.alive l.place ≡ position_from (λ a. a) l.machine (drop l.machine l.alive)
