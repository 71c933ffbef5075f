use Rattle.pyd_meaning.proofs.Expressions.{tuple}
use Rattle.pyd_meaning.proofs.laws.tuple_law.Goals as goal

pub returns : goal.returns
returns c = tuple
