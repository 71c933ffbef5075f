use Rattle.pyd_runs.proofs.Running.{event_keeps}
use Rattle.pyd_runs.proofs.laws.event_law.Goals as goal

pub returns : goal.returns
returns c = event_keeps
