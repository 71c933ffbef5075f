use Rattle.pyd_effect.proofs.Walking.{walks}
use Rattle.pyd_effect.proofs.laws.walk_law.Goals as goal

pub returns : goal.returns
returns c = walks
