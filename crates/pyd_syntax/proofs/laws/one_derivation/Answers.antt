use Rattle.pyd_syntax.specs.Terminals.{terminals}
use Rattle.pyd_syntax.specs.Grammar.{start}
use Rattle.pyd_syntax.specs.Table.{table}
use Rattle.pyd_syntax.proofs.Unique.{unique}
use Rattle.pyd_syntax.proofs.Entries.{table_valid, begins}
use Rattle.pyd_syntax.proofs.laws.one_derivation.Goals as goal

pub returns : goal.returns
returns c = λ tokens a b d e. unique table table_valid a b start (terminals tokens) (begins (terminals tokens)).follows d e
