use Rattle.pyd_runs.proofs.Bounding.{run_bounded}
use Rattle.pyd_runs.proofs.bounds.run_bound_law.Goals as goal

pub returns : goal.returns
returns c = run_bounded
