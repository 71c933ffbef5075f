use Rattle.pyd_core.proofs.Lawfulness.{ended_alike}
use Rattle.pyd_core.proofs.facts.end_law.Goals as goal

pub returns : goal.returns
returns c = ended_alike
