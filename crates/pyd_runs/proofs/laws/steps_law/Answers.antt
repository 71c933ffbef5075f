use Rattle.pyd_runs.proofs.Stepping.{steps_taken}
use Rattle.pyd_runs.proofs.laws.steps_law.Goals as goal

pub returns : goal.returns
returns c = steps_taken
