use Rattle.pyd_meaning.proofs.Calls.{functions}
use Rattle.pyd_meaning.proofs.run_laws.function_law.Goals as goal

pub returns : goal.returns
returns c = functions
