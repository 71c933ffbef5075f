use Rattle.pyd_translate.proofs.FunctionalCalls.{functional_call}
use Rattle.pyd_translate.proofs.laws.functional_call_law.Goals as goal

pub returns : goal.returns
returns c = functional_call
