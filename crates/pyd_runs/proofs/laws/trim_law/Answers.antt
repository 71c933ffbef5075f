use Rattle.pyd_runs.proofs.Trimming.{trim_keeps}
use Rattle.pyd_runs.proofs.laws.trim_law.Goals as goal

pub returns : goal.returns
returns c = trim_keeps
