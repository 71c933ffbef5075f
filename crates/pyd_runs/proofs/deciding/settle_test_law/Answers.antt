use Rattle.pyd_runs.proofs.Testing.{tells_settles}
use Rattle.pyd_runs.proofs.deciding.settle_test_law.Goals as goal

pub returns : goal.returns
returns c = tells_settles
