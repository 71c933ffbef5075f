use Rattle.pyd_translate.proofs.Reading.{conditional_order}
use Rattle.pyd_translate.proofs.laws.conditional_order_law.Goals as goal

pub returns : goal.returns
returns c = conditional_order
