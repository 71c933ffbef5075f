use Rattle.pyd_runs.proofs.ShortRuns.{lost_when_done}
use Rattle.pyd_runs.proofs.rows.lost_when_done_row.Goals as goal

pub returns : goal.returns
returns c = lost_when_done
