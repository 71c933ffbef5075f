use Rattle.pyd_grammar.proofs.Answers.{an_answer}
use Rattle.pyd_grammar.proofs.laws.an_answer.Goals as goal

pub returns : goal.returns
returns c = an_answer c.an_answer.ensures c.files_are_scripts.ensures c.a_line.ensures c.token_bytes.ensures
