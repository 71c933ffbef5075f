use Rattle.pyd_refine.proofs.SlotPorts.{piece-ports}
use Rattle.pyd_refine.proofs.laws.piece_ports_law.Goals as goal

pub returns : goal.returns
returns c = piece-ports
