use Rattle.pyd_board.proofs.Extending.{extends_trans}
use Rattle.pyd_board.proofs.laws.extending_is_transitive.Goals as goal

pub returns : goal.returns
returns c = extends_trans
