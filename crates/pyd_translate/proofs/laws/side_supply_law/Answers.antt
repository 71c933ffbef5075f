use Rattle.pyd_translate.proofs.LawsSupplied.{side_supply}
use Rattle.pyd_translate.proofs.laws.side_supply_law.Goals as goal

pub returns : goal.returns
returns c = side_supply
