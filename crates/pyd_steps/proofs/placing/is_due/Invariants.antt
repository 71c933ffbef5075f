-- Whether the machine's loss is due is told by the entries that are left.
use Rattle.std.proofs.Common.{◌≡◌, ◌+◌, drop}
use Rattle.pyd_lineage.specs.Lineage.{is_among}
use Rattle.pyd_runs.specs.NextLosses.{due_after}
use Rattle.pyd_steps.proofs.placing.is_due.Given as goal

abbrev pub invariant-loop-at : goal.invariant-loop-at
invariant-loop-at l =
    is_among (due_after l.events l.losses) l.machine
    ≡ is_among (due_after (l.events + l.at) (drop l.at l.losses)) l.machine
