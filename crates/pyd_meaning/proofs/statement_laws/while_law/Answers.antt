use Rattle.pyd_meaning.proofs.Statements.{while_statement}
use Rattle.pyd_meaning.proofs.statement_laws.while_law.Goals as goal

pub returns : goal.returns
returns c = while_statement
