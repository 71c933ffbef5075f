use Rattle.pyd_runs.proofs.Running.{end_keeps}
use Rattle.pyd_runs.proofs.laws.end_law.Goals as goal

pub returns : goal.returns
returns c = end_keeps
