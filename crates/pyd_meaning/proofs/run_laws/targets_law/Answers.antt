use Rattle.pyd_meaning.proofs.Targets.{targets}
use Rattle.pyd_meaning.proofs.run_laws.targets_law.Goals as goal

pub returns : goal.returns
returns c = targets
