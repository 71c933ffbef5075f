use Rattle.pyd_grammar.proofs.Answers.{well_formed}
use Rattle.pyd_grammar.proofs.laws.files_are_well_formed.Goals as goal

pub returns : goal.returns
returns c = well_formed c.token_bytes.ensures
