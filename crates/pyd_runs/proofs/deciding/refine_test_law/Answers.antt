use Rattle.pyd_runs.proofs.Testing.{tells_refines}
use Rattle.pyd_runs.proofs.deciding.refine_test_law.Goals as goal

pub returns : goal.returns
returns c = tells_refines
