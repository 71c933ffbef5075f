use Rattle.pyd_runs.proofs.Ticketing.{place_keeps}
use Rattle.pyd_runs.proofs.laws.place_law.Goals as goal

pub returns : goal.returns
returns c = place_keeps
