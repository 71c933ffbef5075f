use Rattle.pyd_ops.proofs.Keeps.{operations_keep_limits}
use Rattle.pyd_ops.proofs.laws.operations_keep_limits.Goals as goal

pub returns : goal.returns
returns c = operations_keep_limits
