use Rattle.pyd_meaning.proofs.Expressions.{index}
use Rattle.pyd_meaning.proofs.laws.index_law.Goals as goal

pub returns : goal.returns
returns c = index
