use Rattle.pyd_runs.proofs.Unchanged.{desk_leaves}
use Rattle.pyd_runs.proofs.facts.desk_law.Goals as goal

pub returns : goal.returns
returns c = desk_leaves
