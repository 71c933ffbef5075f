use Rattle.pyd_runs.proofs.Lineage.{needs_same}
use Rattle.pyd_runs.proofs.laws.need_law.Goals as goal

pub returns : goal.returns
returns c = needs_same
