use Rattle.pyd_boards.proofs.Claiming.{claimed_is_held}
use Rattle.pyd_boards.proofs.claims.claimed_is_held.Goals as goal

pub returns : goal.returns
returns g c = λ name ticket who old new job claims. claimed_is_held claims
