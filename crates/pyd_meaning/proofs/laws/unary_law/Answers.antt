use Rattle.pyd_meaning.proofs.Expressions.{unary}
use Rattle.pyd_meaning.proofs.laws.unary_law.Goals as goal

pub returns : goal.returns
returns c = unary
