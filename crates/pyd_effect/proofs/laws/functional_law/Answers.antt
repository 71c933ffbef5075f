use Rattle.pyd_effect.proofs.Functional.{functional}
use Rattle.pyd_effect.proofs.laws.functional_law.Goals as goal

pub returns : goal.returns
returns c = functional
