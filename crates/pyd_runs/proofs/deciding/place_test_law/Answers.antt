use Rattle.pyd_runs.proofs.Testing.{tells_places}
use Rattle.pyd_runs.proofs.deciding.place_test_law.Goals as goal

pub returns : goal.returns
returns c = tells_places
