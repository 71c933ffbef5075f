use Rattle.pyd_measure.proofs.Single.{one_from}
use Rattle.pyd_measure.proofs.laws.one_line.Goals as goal

pub returns : goal.returns
returns c = one_from c.one_derivation.ensures
