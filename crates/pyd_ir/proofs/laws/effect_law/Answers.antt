use Rattle.pyd_ir.proofs.Looking.{effects}
use Rattle.pyd_ir.proofs.laws.effect_law.Goals as goal

pub returns : goal.returns
returns c = effects
