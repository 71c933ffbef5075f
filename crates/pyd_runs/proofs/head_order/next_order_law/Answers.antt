use Rattle.pyd_runs.proofs.Waiting.{next_in_order}
use Rattle.pyd_runs.proofs.head_order.next_order_law.Goals as goal

pub returns : goal.returns
returns c = next_in_order
