use Rattle.pyd_translate.proofs.SlotPorts.{side_ports}
use Rattle.pyd_translate.proofs.laws.side_ports_law.Goals as goal

pub returns : goal.returns
returns c = side_ports
