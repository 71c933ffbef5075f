use Rattle.pyd_runs.proofs.ShortRuns.{in_turn}
use Rattle.pyd_runs.proofs.rows.in_turn_row.Goals as goal

pub returns : goal.returns
returns c = in_turn
