use Rattle.pyd_meaning.proofs.Expressions.{conjunction}
use Rattle.pyd_meaning.proofs.laws.and_law.Goals as goal

pub returns : goal.returns
returns c = conjunction
