use Rattle.std.proofs.Common.{rules}
use Rattle.pyd_lex.specs.Words.{front_mark}
use Rattle.pyd_lex.proofs.mark.front_mark.Goals as goal

pub returns : goal.returns
unfolding front_mark
returns c = search rules
