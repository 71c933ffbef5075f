use Rattle.pyd_runs.proofs.Unchanged.{claims_have}
use Rattle.pyd_runs.proofs.facts.claimed_law.Goals as goal

pub returns : goal.returns
returns c = claims_have
