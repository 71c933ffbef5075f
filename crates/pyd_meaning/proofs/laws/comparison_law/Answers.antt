use Rattle.pyd_meaning.proofs.Expressions.{comparison}
use Rattle.pyd_meaning.proofs.laws.comparison_law.Goals as goal

pub returns : goal.returns
returns c = comparison
