use Rattle.pyd_meaning.proofs.Loops.{for_turns}
use Rattle.pyd_meaning.proofs.run_laws.for_turns_law.Goals as goal

pub returns : goal.returns
returns c = for_turns
