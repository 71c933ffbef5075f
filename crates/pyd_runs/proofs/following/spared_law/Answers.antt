use Rattle.pyd_runs.proofs.Trims.{can_spared}
use Rattle.pyd_runs.proofs.following.spared_law.Goals as goal

pub returns : goal.returns
returns c = can_spared
