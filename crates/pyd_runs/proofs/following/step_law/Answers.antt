use Rattle.pyd_runs.proofs.Beginnings.{steps_on}
use Rattle.pyd_runs.proofs.following.step_law.Goals as goal

pub returns : goal.returns
returns c = steps_on
