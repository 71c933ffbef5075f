use Rattle.pyd_runs.proofs.Counting.{nodes_served}
use Rattle.pyd_runs.proofs.bounds.node_count_law.Goals as goal

pub returns : goal.returns
returns c = nodes_served
