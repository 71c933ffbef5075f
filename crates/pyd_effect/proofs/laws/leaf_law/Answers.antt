use Rattle.pyd_effect.proofs.Leaves.{leaves}
use Rattle.pyd_effect.proofs.laws.leaf_law.Goals as goal

pub returns : goal.returns
returns c = leaves
