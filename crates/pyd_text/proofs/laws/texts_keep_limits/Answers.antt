use Rattle.pyd_text.proofs.Keeps.{texts_keep_limits}
use Rattle.pyd_text.proofs.laws.texts_keep_limits.Goals as goal

pub returns : goal.returns
returns c = texts_keep_limits
