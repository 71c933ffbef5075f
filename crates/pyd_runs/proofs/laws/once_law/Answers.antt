use Rattle.pyd_runs.proofs.Once.{once_settled}
use Rattle.pyd_runs.proofs.laws.once_law.Goals as goal

pub returns : goal.returns
returns c = once_settled
