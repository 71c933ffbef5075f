use Rattle.pyd_runs.proofs.Stepping.{head_steps}
use Rattle.pyd_runs.proofs.bounds.head_steps_law.Goals as goal

pub returns : goal.returns
returns c = head_steps
