use Rattle.pyd_runs.proofs.Seated.{claims_seated}
use Rattle.pyd_runs.proofs.claims.seat_law.Goals as goal

pub returns : goal.returns
returns c = claims_seated
