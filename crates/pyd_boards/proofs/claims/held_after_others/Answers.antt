use Rattle.pyd_boards.proofs.Held.{held_after_others}
use Rattle.pyd_boards.proofs.claims.held_after_others.Goals as goal

pub returns : goal.returns
returns c = held_after_others
