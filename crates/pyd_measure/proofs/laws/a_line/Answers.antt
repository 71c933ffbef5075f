use Rattle.pyd_measure.proofs.Single.{some_line}
use Rattle.pyd_measure.proofs.laws.a_line.Goals as goal

pub returns : goal.returns
returns c = some_line
