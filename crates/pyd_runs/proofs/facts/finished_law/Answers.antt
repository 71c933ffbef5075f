use Rattle.pyd_runs.proofs.Unchanged.{finishes_keep}
use Rattle.pyd_runs.proofs.facts.finished_law.Goals as goal

pub returns : goal.returns
returns c = finishes_keep
