use Rattle.pyd_meaning.proofs.Expressions.{slice}
use Rattle.pyd_meaning.proofs.laws.slice_law.Goals as goal

pub returns : goal.returns
returns c = slice
