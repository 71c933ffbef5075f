use Rattle.pyd_translate.proofs.RestOrder.{side_order}
use Rattle.pyd_translate.proofs.laws.side_order_law.Goals as goal

pub returns : goal.returns
returns c = side_order
