use Rattle.pyd_runs.proofs.Settling.{settle_keeps}
use Rattle.pyd_runs.proofs.laws.settle_law.Goals as goal

pub returns : goal.returns
returns c = settle_keeps
