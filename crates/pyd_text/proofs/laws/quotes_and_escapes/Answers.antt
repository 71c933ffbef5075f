use Rattle.pyd_text.proofs.Escapes.{quoting_law}
use Rattle.pyd_text.proofs.laws.quotes_and_escapes.Goals as goal

pub returns : goal.returns
returns c = quoting_law
