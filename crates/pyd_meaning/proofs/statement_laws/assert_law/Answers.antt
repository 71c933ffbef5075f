use Rattle.pyd_meaning.proofs.Statements.{assert_statement}
use Rattle.pyd_meaning.proofs.statement_laws.assert_law.Goals as goal

pub returns : goal.returns
returns c = assert_statement
