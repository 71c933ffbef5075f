use Rattle.pyd_meaning.proofs.Statements.{suite}
use Rattle.pyd_meaning.proofs.statement_laws.suite_law.Goals as goal

pub returns : goal.returns
returns c = suite
