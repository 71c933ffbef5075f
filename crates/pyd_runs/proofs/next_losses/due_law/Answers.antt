use Rattle.pyd_runs.proofs.NextLost.{come_due}
use Rattle.pyd_runs.proofs.next_losses.due_law.Goals as goal

pub returns : goal.returns
returns c = come_due
