use Rattle.pyd_core.proofs.Lawfulness.{comes_next}
use Rattle.pyd_core.proofs.facts.next_law.Goals as goal

pub returns : goal.returns
returns c = comes_next c.step_law.ensures c.beginning_law.ensures
