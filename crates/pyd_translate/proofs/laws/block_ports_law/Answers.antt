use Rattle.pyd_translate.proofs.SlotPorts.{block_ports}
use Rattle.pyd_translate.proofs.laws.block_ports_law.Goals as goal

pub returns : goal.returns
returns c = block_ports
