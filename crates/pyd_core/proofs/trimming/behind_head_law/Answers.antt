use Rattle.pyd_core.proofs.Behind.{in_order_behind}
use Rattle.pyd_core.proofs.trimming.behind_head_law.Goals as goal

pub returns : goal.returns
returns c = in_order_behind c.settle_law.ensures c.in_order_law.ensures
