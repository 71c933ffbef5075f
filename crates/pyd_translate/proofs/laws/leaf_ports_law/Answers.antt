use Rattle.pyd_translate.proofs.SlotPorts.{leaf_ports}
use Rattle.pyd_translate.proofs.laws.leaf_ports_law.Goals as goal

pub returns : goal.returns
returns c = leaf_ports
