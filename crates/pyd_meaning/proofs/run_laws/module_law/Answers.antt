use Rattle.pyd_meaning.proofs.Calls.{script}
use Rattle.pyd_meaning.proofs.run_laws.module_law.Goals as goal

pub returns : goal.returns
returns c = script
