use Rattle.pyd_runs.proofs.NextLost.{any_seat_loses}
use Rattle.pyd_runs.proofs.next_losses.loss_seat_law.Goals as goal

pub returns : goal.returns
returns c = any_seat_loses
