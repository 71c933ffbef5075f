use Rattle.pyd_syntax.specs.Terminals.{terminals}
use Rattle.pyd_syntax.proofs.Runs.{an_answer}
use Rattle.pyd_syntax.proofs.laws.an_answer.Goals as goal

pub returns : goal.returns
returns c = λ tokens e. an_answer (terminals tokens) e.0 e.1
