use Rattle.pyd_meaning.proofs.Statements.{expression_statement}
use Rattle.pyd_meaning.proofs.statement_laws.expression_law.Goals as goal

pub returns : goal.returns
returns c = expression_statement
