use Rattle.pyd_runs.proofs.Owning.{lets_go}
use Rattle.pyd_runs.proofs.claims.let_go_law.Goals as goal

pub returns : goal.returns
returns c = lets_go
