use Rattle.pyd_runs.proofs.HeadRecords.{records_give}
use Rattle.pyd_runs.proofs.heads.record_law.Goals as goal

pub returns : goal.returns
returns c = records_give
