use Rattle.pyd_runs.proofs.Running.{run_keeps}
use Rattle.pyd_runs.proofs.laws.run_law.Goals as goal

pub returns : goal.returns
returns c = run_keeps
