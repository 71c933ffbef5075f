use Rattle.pyd_runs.proofs.Calling.{callees_kept}
use Rattle.pyd_runs.proofs.callees.kept_callee_law.Goals as goal

pub returns : goal.returns
returns c = callees_kept
