use Rattle.pyd_ir.proofs.Looking.{composites}
use Rattle.pyd_ir.proofs.laws.composite_law.Goals as goal

pub returns : goal.returns
returns c = composites
