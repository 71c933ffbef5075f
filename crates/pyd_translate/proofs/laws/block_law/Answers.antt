use Rattle.pyd_translate.proofs.LawsMatch.{block_law}
use Rattle.pyd_translate.proofs.laws.block_law.Goals as goal

pub returns : goal.returns
returns c = block_law
