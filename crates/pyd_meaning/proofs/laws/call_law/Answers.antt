use Rattle.pyd_meaning.proofs.Expressions.{call}
use Rattle.pyd_meaning.proofs.laws.call_law.Goals as goal

pub returns : goal.returns
returns c = call
