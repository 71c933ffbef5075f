use Rattle.pyd_lex.proofs.Spans.{spelled}
use Rattle.pyd_lex.proofs.laws.spelled.Goals as goal

pub returns : goal.returns
returns c = spelled
