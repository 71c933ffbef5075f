use Rattle.pyd_meaning.proofs.Loops.{while_turns}
use Rattle.pyd_meaning.proofs.run_laws.while_turns_law.Goals as goal

pub returns : goal.returns
returns c = while_turns
