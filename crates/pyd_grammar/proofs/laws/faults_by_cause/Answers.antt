use Rattle.pyd_grammar.proofs.Answers.{faults_by_cause}
use Rattle.pyd_grammar.proofs.laws.faults_by_cause.Goals as goal

pub returns : goal.returns
returns c = faults_by_cause c.one_first_hopeless.ensures c.an_answer.ensures c.files_are_scripts.ensures
