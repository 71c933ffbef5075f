use Rattle.pyd_runs.proofs.NextLost.{only_due}
use Rattle.pyd_runs.proofs.next_losses.only_due_law.Goals as goal

pub returns : goal.returns
returns c = only_due
