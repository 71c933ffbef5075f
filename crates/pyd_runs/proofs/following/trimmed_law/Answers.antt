use Rattle.pyd_runs.proofs.Trims.{can_still}
use Rattle.pyd_runs.proofs.following.trimmed_law.Goals as goal

pub returns : goal.returns
returns c = can_still
