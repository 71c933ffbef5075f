use Rattle.pyd_translate.proofs.NestedRests.{block_nested}
use Rattle.pyd_translate.proofs.laws.block_nested_law.Goals as goal

pub returns : goal.returns
returns c = block_nested
