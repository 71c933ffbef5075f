use Rattle.pyd_runs.proofs.Counting.{events_counted}
use Rattle.pyd_runs.proofs.bounds.event_count_law.Goals as goal

pub returns : goal.returns
returns c = events_counted
