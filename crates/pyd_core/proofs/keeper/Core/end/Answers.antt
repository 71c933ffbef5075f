use Rattle.std.proofs.Common.{sym}
use Rattle.pyd_core.proofs.keeper.Core.end.Goals as goal

pub returns : goal.returns
returns c = sym c.requires.tied.end
