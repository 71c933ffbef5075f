use Rattle.pyd_runs.proofs.Made.{made_counted}
use Rattle.pyd_runs.proofs.bounds.made_count_law.Goals as goal

pub returns : goal.returns
returns c = made_counted
