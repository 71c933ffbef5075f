use Rattle.pyd_names.proofs.Bound.{by_kind}
use Rattle.pyd_names.proofs.laws.bindings_go_by_kind.Goals as goal

pub returns : goal.returns
returns c = by_kind
