use Rattle.pyd_runs.proofs.Beginnings.{goes_behind}
use Rattle.pyd_runs.proofs.following.beginning_law.Goals as goal

pub returns : goal.returns
returns c = goes_behind
