use Rattle.std.proofs.Common.{◌≡◌, ◌-◌, suc, length, length-append, arith, ◌∙◌}
use Rattle.pyd_eval.proofs.Entering.{one-filled}
use Rattle.pyd_eval.proofs.slots.fill.Goals as goal

pub loop-slots-preserved : goal.loop-slots-preserved
loop-slots-preserved c = rw (c.in-Ok.ensures.items, length-append) (one-filled _ _ _ (omega arith)) ∙ c.loop-slots.invariant
