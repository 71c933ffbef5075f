use Rattle.pyd_ir.proofs.Jobs.{calls}
use Rattle.pyd_ir.proofs.laws.call_law.Goals as goal

pub returns : goal.returns
returns c = calls
