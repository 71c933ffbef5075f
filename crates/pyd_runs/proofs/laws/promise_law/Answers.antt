use Rattle.pyd_runs.proofs.Promising.{promised}
use Rattle.pyd_runs.proofs.laws.promise_law.Goals as goal

pub returns : goal.returns
returns c = promised
