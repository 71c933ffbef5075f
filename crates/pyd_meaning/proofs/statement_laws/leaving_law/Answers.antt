use Rattle.pyd_meaning.proofs.Statements.{leaving}
use Rattle.pyd_meaning.proofs.statement_laws.leaving_law.Goals as goal

pub returns : goal.returns
returns c = leaving
