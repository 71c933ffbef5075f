use Rattle.pyd_translate.proofs.LawsSupplied.{expression_supply}
use Rattle.pyd_translate.proofs.laws.expression_supply_law.Goals as goal

pub returns : goal.returns
returns c = expression_supply
