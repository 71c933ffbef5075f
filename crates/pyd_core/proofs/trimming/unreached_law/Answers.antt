use Rattle.pyd_core.proofs.Behind.{unreached_trimmable}
use Rattle.pyd_core.proofs.trimming.unreached_law.Goals as goal

pub returns : goal.returns
returns c = unreached_trimmable c.reach_law.ensures
