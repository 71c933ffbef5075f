use Rattle.pyd_refine.proofs.Needs.{ready}
use Rattle.pyd_refine.proofs.laws.ready_law.Goals as goal

pub returns : goal.returns
returns c = ready
