use Rattle.pyd_runs.proofs.Trims.{trims_row}
use Rattle.pyd_runs.proofs.following.trims_law.Goals as goal

pub returns : goal.returns
returns c = trims_row
