use Rattle.pyd_runs.proofs.Releasing.{releases}
use Rattle.pyd_runs.proofs.releases.release_law.Goals as goal

pub returns : goal.returns
returns c = releases
