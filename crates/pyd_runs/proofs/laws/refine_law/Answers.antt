use Rattle.pyd_runs.proofs.Refined.{refine_keeps}
use Rattle.pyd_runs.proofs.laws.refine_law.Goals as goal

pub returns : goal.returns
returns c = refine_keeps
