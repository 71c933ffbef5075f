use Rattle.pyd_runs.proofs.Calling.{callees_always}
use Rattle.pyd_runs.proofs.callees.callee_law.Goals as goal

pub returns : goal.returns
returns c = callees_always
