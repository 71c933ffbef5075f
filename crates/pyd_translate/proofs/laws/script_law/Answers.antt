use Rattle.pyd_translate.proofs.LawsMatch.{script_law}
use Rattle.pyd_translate.proofs.laws.script_law.Goals as goal

pub returns : goal.returns
returns c = script_law
