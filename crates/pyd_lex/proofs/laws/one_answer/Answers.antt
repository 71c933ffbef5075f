use Rattle.pyd_lex.proofs.Unique.{one_answer}
use Rattle.pyd_lex.proofs.laws.one_answer.Goals as goal

pub returns : goal.returns
returns c = one_answer
