use Rattle.pyd_board.proofs.Extending.{by_trans}
use Rattle.pyd_board.proofs.laws.extensions_by_one_seat_are_one.Goals as goal

pub returns : goal.returns
returns c = by_trans
