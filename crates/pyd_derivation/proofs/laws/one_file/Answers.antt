use Rattle.pyd_derivation.proofs.Single.{one_from}
use Rattle.pyd_derivation.proofs.laws.one_file.Goals as goal

pub returns : goal.returns
returns c = one_from c.one_derivation.ensures
