use Rattle.pyd_ops.proofs.Slicing.{slice_law}
use Rattle.pyd_ops.proofs.laws.slice_has_the_items_between.Goals as goal

pub returns : goal.returns
returns c = slice_law
