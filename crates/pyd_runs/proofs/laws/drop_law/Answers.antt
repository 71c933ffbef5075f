use Rattle.pyd_runs.proofs.Dropping.{drop_keeps}
use Rattle.pyd_runs.proofs.laws.drop_law.Goals as goal

pub returns : goal.returns
returns c = drop_keeps
