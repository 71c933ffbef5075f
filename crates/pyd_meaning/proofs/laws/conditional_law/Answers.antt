use Rattle.pyd_meaning.proofs.Expressions.{conditional}
use Rattle.pyd_meaning.proofs.laws.conditional_law.Goals as goal

pub returns : goal.returns
returns c = conditional
