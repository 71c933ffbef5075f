use Rattle.pyd_board.proofs.Extending.{extends_itself}
use Rattle.pyd_board.proofs.laws.a_history_extends_itself.Goals as goal

pub returns : goal.returns
returns c = extends_itself
