use Rattle.pyd_core.proofs.Wanted.{losses_wanted}
use Rattle.pyd_core.proofs.wanting.wanted_law.Goals as goal

pub returns : goal.returns
returns c = losses_wanted
