use Rattle.pyd_translate.proofs.SuppliedRests.{block_supply}
use Rattle.pyd_translate.proofs.laws.block_supply_law.Goals as goal

pub returns : goal.returns
returns c = block_supply
