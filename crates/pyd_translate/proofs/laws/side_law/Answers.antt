use Rattle.pyd_translate.proofs.SidesMatch.{sides_match}
use Rattle.pyd_translate.proofs.laws.side_law.Goals as goal

pub returns : goal.returns
returns c = sides_match
