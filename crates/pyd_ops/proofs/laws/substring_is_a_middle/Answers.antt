use Rattle.pyd_ops.proofs.Slicing.{substring_is_a_middle}
use Rattle.pyd_ops.proofs.laws.substring_is_a_middle.Goals as goal

pub returns : goal.returns
returns c = substring_is_a_middle
