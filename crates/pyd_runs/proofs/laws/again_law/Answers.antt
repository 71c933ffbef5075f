use Rattle.pyd_runs.proofs.Again.{claimed_again}
use Rattle.pyd_runs.proofs.laws.again_law.Goals as goal

pub returns : goal.returns
returns c = claimed_again
