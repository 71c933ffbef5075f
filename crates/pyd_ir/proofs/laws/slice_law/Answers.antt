use Rattle.pyd_ir.proofs.Operators.{slices}
use Rattle.pyd_ir.proofs.laws.slice_law.Goals as goal

pub returns : goal.returns
returns c = slices
