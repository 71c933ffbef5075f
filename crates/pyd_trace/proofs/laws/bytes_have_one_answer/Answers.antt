use Rattle.pyd_trace.proofs.Lines.{one_first, one_answer}
use Rattle.pyd_trace.proofs.Deciding.{some_answer}
use Rattle.pyd_trace.proofs.laws.bytes_have_one_answer.Goals as goal

pub returns-clause-some : goal.returns-clause-some
returns-clause-some c = some_answer

pub returns-clause-line : goal.returns-clause-line
returns-clause-line c = one_first

pub returns-clause-answer : goal.returns-clause-answer
returns-clause-answer c = one_answer
