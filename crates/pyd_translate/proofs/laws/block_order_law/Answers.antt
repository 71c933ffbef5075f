use Rattle.pyd_translate.proofs.RestOrder.{block_order}
use Rattle.pyd_translate.proofs.laws.block_order_law.Goals as goal

pub returns : goal.returns
returns c = block_order
