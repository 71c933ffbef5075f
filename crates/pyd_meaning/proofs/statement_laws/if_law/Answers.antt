use Rattle.pyd_meaning.proofs.Statements.{if_statement}
use Rattle.pyd_meaning.proofs.statement_laws.if_law.Goals as goal

pub returns : goal.returns
returns c = if_statement
