use Rattle.pyd_runs.proofs.Seeing.{sight_fixed}
use Rattle.pyd_runs.proofs.laws.sight_law.Goals as goal

pub returns : goal.returns
returns c = sight_fixed
