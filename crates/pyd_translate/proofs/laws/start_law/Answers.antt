use Rattle.pyd_translate.proofs.Lookup.{start_placed}
use Rattle.pyd_translate.proofs.laws.start_law.Goals as goal

pub returns : goal.returns
returns c = start_placed
