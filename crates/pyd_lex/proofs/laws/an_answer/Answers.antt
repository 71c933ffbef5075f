use Rattle.pyd_lex.proofs.Unique.{an_answer}
use Rattle.pyd_lex.proofs.laws.an_answer.Goals as goal

pub returns : goal.returns
returns c = an_answer
