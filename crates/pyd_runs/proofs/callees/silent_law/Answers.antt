use Rattle.pyd_runs.proofs.SilentJobs.{jobs_silent}
use Rattle.pyd_runs.proofs.callees.silent_law.Goals as goal

pub returns : goal.returns
returns c = jobs_silent
