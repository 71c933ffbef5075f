use Rattle.pyd_runs.proofs.Releasing.{tickets_stay}
use Rattle.pyd_runs.proofs.releases.ticket_stays_law.Goals as goal

pub returns : goal.returns
returns c = tickets_stay
