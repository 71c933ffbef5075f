use Rattle.pyd_translate.proofs.SuitesWithin.{start_within}
use Rattle.pyd_translate.proofs.laws.start_within_law.Goals as goal

pub returns : goal.returns
returns c = start_within
