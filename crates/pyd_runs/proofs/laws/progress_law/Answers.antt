use Rattle.pyd_runs.proofs.Progress.{goes_on}
use Rattle.pyd_runs.proofs.laws.progress_law.Goals as goal

pub returns : goal.returns
returns c = goes_on
