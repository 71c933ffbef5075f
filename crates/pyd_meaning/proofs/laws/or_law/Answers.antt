use Rattle.pyd_meaning.proofs.Expressions.{disjunction}
use Rattle.pyd_meaning.proofs.laws.or_law.Goals as goal

pub returns : goal.returns
returns c = disjunction
