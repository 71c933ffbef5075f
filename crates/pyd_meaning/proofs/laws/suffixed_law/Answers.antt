use Rattle.pyd_meaning.proofs.Expressions.{suffixed}
use Rattle.pyd_meaning.proofs.laws.suffixed_law.Goals as goal

pub returns : goal.returns
returns c = suffixed
