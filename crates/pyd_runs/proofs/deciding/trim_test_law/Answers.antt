use Rattle.pyd_runs.proofs.Testing.{tells_trims}
use Rattle.pyd_runs.proofs.deciding.trim_test_law.Goals as goal

pub returns : goal.returns
returns c = tells_trims
