use Rattle.std.proofs.Common.{length-append, arith, ◌∙◌}
use Rattle.pyd_refine.proofs.Entered.{one-filled}
use Rattle.pyd_refine.proofs.enter.fill.Goals as goal

pub loop-env-preserved : goal.loop-env-preserved
loop-env-preserved c = rw (c.in-Ok.ensures.items, length-append) (one-filled _ _ _ (omega arith)) ∙ c.loop-env.invariant
