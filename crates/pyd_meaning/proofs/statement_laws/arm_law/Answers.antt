use Rattle.pyd_meaning.proofs.Statements.{arm}
use Rattle.pyd_meaning.proofs.statement_laws.arm_law.Goals as goal

pub returns : goal.returns
returns c = arm
