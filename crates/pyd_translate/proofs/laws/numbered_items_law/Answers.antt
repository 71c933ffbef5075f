use Rattle.pyd_translate.proofs.PartItems.{numbered_few}
use Rattle.pyd_translate.proofs.laws.numbered_items_law.Goals as goal

pub returns : goal.returns
returns c = numbered_few
