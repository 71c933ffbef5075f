use Rattle.pyd_names.proofs.Singles.{bound_once}
use Rattle.pyd_names.proofs.laws.constants_are_bound_once.Goals as goal

pub returns : goal.returns
returns c = bound_once
