use Rattle.pyd_runs.proofs.Unchanged.{events_put_out}
use Rattle.pyd_runs.proofs.facts.output_law.Goals as goal

pub returns : goal.returns
returns c = events_put_out
