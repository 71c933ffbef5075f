use Rattle.pyd_runs.proofs.NextLost.{are_left}
use Rattle.pyd_runs.proofs.next_losses.left_law.Goals as goal

pub returns : goal.returns
returns c = are_left
