use Rattle.pyd_runs.proofs.Releasing.{place_leaves}
use Rattle.pyd_runs.proofs.releases.place_apart_law.Goals as goal

pub returns : goal.returns
returns c = place_leaves
