use Rattle.pyd_meaning.proofs.Statements.{for_statement}
use Rattle.pyd_meaning.proofs.statement_laws.for_law.Goals as goal

pub returns : goal.returns
returns c = for_statement
