use Rattle.pyd_lex.proofs.Faults.{all_good}
use Rattle.pyd_lex.proofs.laws.all_good.Goals as goal

pub returns : goal.returns
returns c = all_good
