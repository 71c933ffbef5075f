use Rattle.pyd_refine.proofs.Whole.{substitution}
use Rattle.pyd_refine.proofs.laws.substitution_law.Goals as goal

pub returns : goal.returns
returns c = substitution
