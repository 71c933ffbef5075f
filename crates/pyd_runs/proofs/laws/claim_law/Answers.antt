use Rattle.pyd_runs.proofs.Claiming.{claim_keeps}
use Rattle.pyd_runs.proofs.laws.claim_law.Goals as goal

pub returns : goal.returns
returns c = claim_keeps
