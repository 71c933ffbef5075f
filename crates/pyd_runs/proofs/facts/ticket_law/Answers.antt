use Rattle.pyd_runs.proofs.Unchanged.{tickets_live}
use Rattle.pyd_runs.proofs.facts.ticket_law.Goals as goal

pub returns : goal.returns
returns c = tickets_live
