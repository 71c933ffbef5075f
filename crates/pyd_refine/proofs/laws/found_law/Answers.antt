use Rattle.pyd_refine.proofs.Redirecting.{found}
use Rattle.pyd_refine.proofs.laws.found_law.Goals as goal

pub returns : goal.returns
returns c = found
