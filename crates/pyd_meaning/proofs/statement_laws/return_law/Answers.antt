use Rattle.pyd_meaning.proofs.Statements.{return_statement}
use Rattle.pyd_meaning.proofs.statement_laws.return_law.Goals as goal

pub returns : goal.returns
returns c = return_statement
