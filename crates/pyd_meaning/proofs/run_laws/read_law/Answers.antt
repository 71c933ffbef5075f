use Rattle.pyd_meaning.proofs.Calls.{reads}
use Rattle.pyd_meaning.proofs.run_laws.read_law.Goals as goal

pub returns : goal.returns
returns c = reads
