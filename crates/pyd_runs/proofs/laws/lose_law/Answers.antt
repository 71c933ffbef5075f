use Rattle.pyd_runs.proofs.Losing.{lose_keeps}
use Rattle.pyd_runs.proofs.laws.lose_law.Goals as goal

pub returns : goal.returns
returns c = lose_keeps
