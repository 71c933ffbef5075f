use Rattle.pyd_runs.proofs.Owning.{takes}
use Rattle.pyd_runs.proofs.claims.take_law.Goals as goal

pub returns : goal.returns
returns c = takes
