use Rattle.pyd_meaning.proofs.Expressions.{literal}
use Rattle.pyd_meaning.proofs.laws.literal_law.Goals as goal

pub returns : goal.returns
returns c = literal
