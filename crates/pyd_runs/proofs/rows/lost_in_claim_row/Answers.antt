use Rattle.pyd_runs.proofs.ShortRuns.{lost_in_claim}
use Rattle.pyd_runs.proofs.rows.lost_in_claim_row.Goals as goal

pub returns : goal.returns
returns c = lost_in_claim
