use Rattle.std.proofs.Common.{rules, ap}
use Rattle.pyd_turn.specs.Views.{lives}
use Rattle.pyd_turn.proofs.Seating.{splits}
use Rattle.pyd_turn.proofs.Taking.{learns}
use Rattle.pyd_turn.proofs.seat.TurnLock.split.Goals as goal

pub split_seat-place-requires : goal.split_seat-place-requires
split_seat-place-requires g c = (search rules, search rules, splits g.T.Kept.name g.T.Kept.history _ _ _ c.requires.first c.args.seat.now.alive c.requires.few)

pub load-requires : goal.load-requires
load-requires g c = (search rules, search rules, learns g.T.Kept.name g.T.Kept.history _ _ _ _ (ap (λ m. lives m.0.stage) c.split_seat-place.ensures.4))
