use Rattle.pyd_runs.proofs.Owning.{held_since}
use Rattle.pyd_runs.proofs.claims.since_law.Goals as goal

pub returns : goal.returns
returns c = held_since
