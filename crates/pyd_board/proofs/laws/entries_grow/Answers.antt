use Rattle.pyd_board.proofs.Extending.{growing}
use Rattle.pyd_board.proofs.laws.entries_grow.Goals as goal

pub returns : goal.returns
returns c = growing
