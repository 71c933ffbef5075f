use Rattle.pyd_runs.proofs.InOrder.{in_order}
use Rattle.pyd_runs.proofs.facts.in_order_law.Goals as goal

pub returns : goal.returns
returns c = in_order
