use Rattle.pyd_boards.proofs.Held.{none_held_after}
use Rattle.pyd_boards.proofs.claims.none_held_after.Goals as goal

pub returns : goal.returns
returns c = none_held_after
