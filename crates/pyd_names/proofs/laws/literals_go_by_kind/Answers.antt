use Rattle.pyd_names.proofs.Values.{by_kind}
use Rattle.pyd_names.proofs.laws.literals_go_by_kind.Goals as goal

pub returns : goal.returns
returns c = by_kind
