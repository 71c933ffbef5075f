use Rattle.pyd_runs.proofs.Beginnings.{journal_whole}
use Rattle.pyd_runs.proofs.following.journal_law.Goals as goal

pub returns : goal.returns
returns c = journal_whole
