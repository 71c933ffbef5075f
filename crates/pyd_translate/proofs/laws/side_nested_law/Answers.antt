use Rattle.pyd_translate.proofs.NestedExpressions.{side_nested}
use Rattle.pyd_translate.proofs.laws.side_nested_law.Goals as goal

pub returns : goal.returns
returns c = side_nested
