use Rattle.pyd_translate.proofs.SlotPorts.{script_ports}
use Rattle.pyd_translate.proofs.laws.script_ports_law.Goals as goal

pub returns : goal.returns
returns c = script_ports
