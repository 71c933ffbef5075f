use Rattle.pyd_translate.proofs.Reading.{stop_then}
use Rattle.pyd_translate.proofs.laws.stop_law.Goals as goal

pub returns : goal.returns
returns c = stop_then
