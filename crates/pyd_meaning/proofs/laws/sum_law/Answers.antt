use Rattle.pyd_meaning.proofs.Expressions.{sum}
use Rattle.pyd_meaning.proofs.laws.sum_law.Goals as goal

pub returns : goal.returns
returns c = sum
