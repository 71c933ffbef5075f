use Rattle.pyd_translate.proofs.FewInRests.{block_few}
use Rattle.pyd_translate.proofs.laws.block_count_law.Goals as goal

pub returns : goal.returns
returns c = block_few
