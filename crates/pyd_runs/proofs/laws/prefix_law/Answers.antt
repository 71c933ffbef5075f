use Rattle.pyd_runs.proofs.Running.{prefix_keeps}
use Rattle.pyd_runs.proofs.laws.prefix_law.Goals as goal

pub returns : goal.returns
returns c = prefix_keeps
