use Rattle.pyd_meaning.proofs.Statements.{augmented}
use Rattle.pyd_meaning.proofs.statement_laws.augmented_law.Goals as goal

pub returns : goal.returns
returns c = augmented
