use Rattle.pyd_meaning.proofs.Expressions.{power}
use Rattle.pyd_meaning.proofs.laws.power_law.Goals as goal

pub returns : goal.returns
returns c = power
