use Rattle.pyd_ops.proofs.Counting.{range_law}
use Rattle.pyd_ops.proofs.laws.range_counts_to_its_end.Goals as goal

pub returns : goal.returns
returns c = range_law
