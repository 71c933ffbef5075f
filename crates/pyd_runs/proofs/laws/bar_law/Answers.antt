use Rattle.pyd_runs.proofs.Barring.{due_bars}
use Rattle.pyd_runs.proofs.laws.bar_law.Goals as goal

pub returns : goal.returns
returns c = due_bars
