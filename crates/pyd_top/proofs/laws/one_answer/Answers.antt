use Rattle.pyd_top.proofs.Sources.{one_source}
use Rattle.pyd_top.proofs.laws.one_answer.Goals as goal

pub returns : goal.returns
returns c =
    one_source
    (record {
      lexing = c.one_answer.ensures;
      lexed = c.an_answer.ensures;
      parsing = c.one_answer-2.ensures;
      parsed = c.an_answer-2.ensures;
      formed = c.files_are_well_formed.ensures;
    })
