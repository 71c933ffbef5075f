use Rattle.pyd_runs.proofs.HeadRecords.{head_recorded}
use Rattle.pyd_runs.proofs.heads.head_law.Goals as goal

pub returns : goal.returns
returns c = head_recorded
