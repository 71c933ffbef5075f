use Rattle.pyd_syntax.specs.Terminals.{terminals}
use Rattle.pyd_syntax.proofs.Ends.{script_ends}
use Rattle.pyd_syntax.proofs.laws.end_comes_last.Goals as goal

pub returns : goal.returns
returns c = λ tokens s. script_ends (terminals tokens) s
