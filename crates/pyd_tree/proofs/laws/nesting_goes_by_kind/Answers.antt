use Rattle.pyd_tree.proofs.Levels.{by_kind}
use Rattle.pyd_tree.proofs.laws.nesting_goes_by_kind.Goals as goal

pub returns : goal.returns
returns c = by_kind
