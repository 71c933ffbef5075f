use Rattle.pyd_runs.proofs.ShortRuns.{second_first}
use Rattle.pyd_runs.proofs.rows.second_first_row.Goals as goal

pub returns : goal.returns
returns c = second_first
