use Rattle.pyd_runs.proofs.Owning.{holds_own}
use Rattle.pyd_runs.proofs.claims.own_law.Goals as goal

pub returns : goal.returns
returns c = holds_own
