use Rattle.pyd_runs.proofs.Holding.{claims_hold}
use Rattle.pyd_runs.proofs.claims.hold_law.Goals as goal

pub returns : goal.returns
returns c = claims_hold
