use Rattle.pyd_ir.proofs.Jobs.{reads}
use Rattle.pyd_ir.proofs.laws.read_law.Goals as goal

pub returns : goal.returns
returns c = reads
