use Rattle.pyd_runs.proofs.Waiting.{head_goes_on}
use Rattle.pyd_runs.proofs.head_order.head_order_law.Goals as goal

pub returns : goal.returns
returns c = head_goes_on
