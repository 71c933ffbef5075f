use Rattle.pyd_text.proofs.Keeps.{line_is_its_text}
use Rattle.pyd_text.proofs.laws.line_is_its_text.Goals as goal

pub returns : goal.returns
returns c = line_is_its_text
