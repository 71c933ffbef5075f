use Rattle.pyd_runs.proofs.Waiting.{next_may}
use Rattle.pyd_runs.proofs.head_order.next_law.Goals as goal

pub returns : goal.returns
returns c = next_may
