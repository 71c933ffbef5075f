use Rattle.pyd_meaning.proofs.Expressions.{name_read}
use Rattle.pyd_meaning.proofs.laws.name_law.Goals as goal

pub returns : goal.returns
returns c = name_read
