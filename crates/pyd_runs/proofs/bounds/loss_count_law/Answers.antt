use Rattle.pyd_runs.proofs.Counting.{losses_counted}
use Rattle.pyd_runs.proofs.bounds.loss_count_law.Goals as goal

pub returns : goal.returns
returns c = losses_counted
