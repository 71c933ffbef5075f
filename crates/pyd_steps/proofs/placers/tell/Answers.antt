use Rattle.pyd_steps.proofs.Asking.{tells_all, tells_next, tells_none}
use Rattle.pyd_steps.proofs.placers.tell.Goals as goal

pub loop-entry-init : goal.loop-entry-init
loop-entry-init g c = tells_none c.args.entries.now _

pub loop-entry-preserved : goal.loop-entry-preserved
loop-entry-preserved g c =
    tells_next c.args.entries.now c.loop-entry.entry-index _ _ _ _ c.loop-entry-test.true
    c.loop-entry.invariant c.tell_one.ensures

pub returns : goal.returns
returns g c =
    tells_all c.args.entries.now c.loop-entry.entry-index _ _ c.loop-entry-test.false
    c.loop-entry.invariant
