use Rattle.pyd_runs.proofs.Places.{losses_stand}
use Rattle.pyd_runs.proofs.laws.loss_law.Goals as goal

pub returns : goal.returns
returns c = losses_stand
