use Rattle.pyd_ir.proofs.Keeping.{keeps_limits}
use Rattle.pyd_ir.proofs.laws.operators_keep_limits.Goals as goal

pub returns : goal.returns
returns c = keeps_limits
