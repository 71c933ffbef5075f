use Rattle.pyd_meaning.proofs.Expressions.{unbound_call}
use Rattle.pyd_meaning.proofs.laws.unbound_call_law.Goals as goal

pub returns : goal.returns
returns c = unbound_call
