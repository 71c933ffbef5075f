use Rattle.pyd_lex.proofs.Faults.{lines_whole}
use Rattle.pyd_lex.proofs.laws.lines_whole.Goals as goal

pub returns : goal.returns
returns c = lines_whole
