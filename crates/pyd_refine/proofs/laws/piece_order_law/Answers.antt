use Rattle.pyd_refine.proofs.Newness.{piece-new}
use Rattle.pyd_refine.proofs.laws.piece_order_law.Goals as goal

pub returns : goal.returns
returns c = piece-new
