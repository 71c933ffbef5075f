use Rattle.std.proofs.Common.{rules}
use Rattle.pyd_lex.specs.Words.{keyword}
use Rattle.pyd_lex.proofs.word.keyword.Goals as goal

pub returns : goal.returns
unfolding keyword
returns c = search rules
