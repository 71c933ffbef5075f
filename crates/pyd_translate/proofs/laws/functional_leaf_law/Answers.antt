use Rattle.pyd_translate.proofs.FunctionalCalls.{functional_leaf}
use Rattle.pyd_translate.proofs.laws.functional_leaf_law.Goals as goal

pub returns : goal.returns
returns c = functional_leaf
