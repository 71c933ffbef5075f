use Rattle.pyd_runs.proofs.ShortRuns.{only_loss}
use Rattle.pyd_runs.proofs.rows.only_loss_row.Goals as goal

pub returns : goal.returns
returns c = only_loss
