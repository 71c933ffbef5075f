use Rattle.pyd_runs.proofs.ShortRuns.{at_once}
use Rattle.pyd_runs.proofs.rows.at_once_row.Goals as goal

pub returns : goal.returns
returns c = at_once
