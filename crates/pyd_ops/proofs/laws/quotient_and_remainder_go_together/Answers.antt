use Rattle.pyd_ops.proofs.Dividing.{division_law}
use Rattle.pyd_ops.proofs.laws.quotient_and_remainder_go_together.Goals as goal

pub returns : goal.returns
returns c = division_law
