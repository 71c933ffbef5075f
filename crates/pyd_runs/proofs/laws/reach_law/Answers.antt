use Rattle.pyd_runs.proofs.Lineage.{reaches_same}
use Rattle.pyd_runs.proofs.laws.reach_law.Goals as goal

pub returns : goal.returns
returns c = reaches_same
