use Rattle.std.proofs.Common.{rules, ◌≡◌, ◌∙◌, ap}
use Rattle.pyd_turn.proofs.Taking.{looks}
use Rattle.pyd_turn.proofs.waiting.await_turn.Goals as goal

pub load-requires : goal.load-requires
load-requires g c = (search rules, search rules, looks g.T.Kept.name g.T.Kept.history _ _ _ _ c.args.turn (ap (λ m. m.0.stage) c.loop.invariant.1 ∙ c.requires.waits.0) (search rules))
