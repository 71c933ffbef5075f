use Rattle.pyd_meaning.proofs.Statements.{statement}
use Rattle.pyd_meaning.proofs.statement_laws.statement_law.Goals as goal

pub returns : goal.returns
returns c = statement
