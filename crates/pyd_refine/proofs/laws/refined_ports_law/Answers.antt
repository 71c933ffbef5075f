use Rattle.pyd_refine.proofs.SlotPorts.{refined-ports}
use Rattle.pyd_refine.proofs.laws.refined_ports_law.Goals as goal

pub returns : goal.returns
returns c = refined-ports
