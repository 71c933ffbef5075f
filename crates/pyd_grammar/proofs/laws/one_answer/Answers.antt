use Rattle.pyd_grammar.proofs.Answers.{one_answer}
use Rattle.pyd_grammar.proofs.laws.one_answer.Goals as goal

pub returns : goal.returns
returns c = one_answer c.one_first_hopeless.ensures c.one_file.ensures c.files_are_scripts.ensures c.one_line.ensures
