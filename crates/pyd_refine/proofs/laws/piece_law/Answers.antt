use Rattle.pyd_refine.proofs.Refining.{pieces}
use Rattle.pyd_refine.proofs.laws.piece_law.Goals as goal

pub returns : goal.returns
returns c = pieces
