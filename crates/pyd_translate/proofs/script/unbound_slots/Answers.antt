use Rattle.std.proofs.Common.{arith}
use Rattle.pyd_translate.proofs.SlotsSet.{unbound_next, unbound_done}
use Rattle.pyd_translate.proofs.script.unbound_slots.Goals as goal

pub loop-i-preserved : goal.loop-i-preserved
loop-i-preserved c = unbound_next c.args.names.now c.loop-i.i _ _ c.loop-i-test.true c.loop-i.invariant c.in_ok-add.ensures.ok

pub returns : goal.returns
returns c = unbound_done c.args.names.now c.loop-i.i _ (omega (arith, c.loop-i-test.false)) c.loop-i.invariant
