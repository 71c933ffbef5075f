use Rattle.pyd_ir.proofs.Operators.{unpacking}
use Rattle.pyd_ir.proofs.laws.unpack_law.Goals as goal

pub returns : goal.returns
returns c = unpacking
