use Rattle.pyd_runs.proofs.SilentJobs.{records_left}
use Rattle.pyd_runs.proofs.callees.leave_law.Goals as goal

pub returns : goal.returns
returns c = records_left
