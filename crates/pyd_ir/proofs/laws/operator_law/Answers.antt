use Rattle.pyd_ir.proofs.Operators.{operators}
use Rattle.pyd_ir.proofs.laws.operator_law.Goals as goal

pub returns : goal.returns
returns c = operators
