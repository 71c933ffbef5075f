use Rattle.pyd_ir.proofs.Operators.{assertions}
use Rattle.pyd_ir.proofs.laws.assert_law.Goals as goal

pub returns : goal.returns
returns c = assertions
