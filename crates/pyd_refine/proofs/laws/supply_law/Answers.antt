use Rattle.pyd_refine.proofs.Supply.{supplies}
use Rattle.pyd_refine.proofs.laws.supply_law.Goals as goal

pub returns : goal.returns
returns c = supplies
