use Rattle.pyd_ir.proofs.Looking.{looks}
use Rattle.pyd_ir.proofs.laws.look_law.Goals as goal

pub returns : goal.returns
returns c = looks
