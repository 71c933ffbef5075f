use Rattle.pyd_meaning.proofs.Statements.{assignment}
use Rattle.pyd_meaning.proofs.statement_laws.assignment_law.Goals as goal

pub returns : goal.returns
returns c = assignment
