use Rattle.pyd_runs.proofs.Onward.{onward_bounded}
use Rattle.pyd_runs.proofs.bounds.onward_bound_law.Goals as goal

pub returns : goal.returns
returns c = onward_bounded
