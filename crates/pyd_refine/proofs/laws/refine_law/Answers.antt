use Rattle.pyd_refine.proofs.Refining.{refines}
use Rattle.pyd_refine.proofs.laws.refine_law.Goals as goal

pub returns : goal.returns
returns c = refines
