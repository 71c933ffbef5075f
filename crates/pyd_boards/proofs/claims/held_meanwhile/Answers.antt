use Rattle.pyd_boards.proofs.Held.{held_meanwhile}
use Rattle.pyd_boards.proofs.claims.held_meanwhile.Goals as goal

pub returns : goal.returns
returns c = held_meanwhile
