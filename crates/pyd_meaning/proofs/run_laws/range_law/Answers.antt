use Rattle.pyd_meaning.proofs.Ranges.{range}
use Rattle.pyd_meaning.proofs.run_laws.range_law.Goals as goal

pub returns : goal.returns
returns c = range
