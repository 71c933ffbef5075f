use Rattle.pyd_runs.proofs.Seated.{seats_kept}
use Rattle.pyd_runs.proofs.claims.kept_seat_law.Goals as goal

pub returns : goal.returns
returns c = seats_kept
