use Rattle.pyd_runs.proofs.Finishing.{finish_keeps}
use Rattle.pyd_runs.proofs.laws.finish_law.Goals as goal

pub returns : goal.returns
returns c = finish_keeps
