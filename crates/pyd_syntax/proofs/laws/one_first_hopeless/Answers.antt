use Rattle.pyd_syntax.specs.Terminals.{terminals}
use Rattle.pyd_syntax.specs.Grammar.{grammar, start}
use Rattle.pyd_syntax.proofs.Hopeless.{one_place, hopeless_none, hopeless_or_unfinished}
use Rattle.pyd_syntax.proofs.laws.one_first_hopeless.Goals as goal

pub returns : goal.returns
returns c = record {
  place = λ tokens i j a b. one_place grammar start (terminals tokens) i j a b;
  script = λ tokens i a s. hopeless_none grammar start (terminals tokens) i a s;
  unfinished = λ tokens i a u. hopeless_or_unfinished grammar start (terminals tokens) i a u;
}
