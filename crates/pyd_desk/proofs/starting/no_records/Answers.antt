use Rattle.std.proofs.Common.{None, arith}
use Rattle.pyd_desk.proofs.Started.{one_more}
use Rattle.pyd_desk.proofs.starting.no_records.Goals as goal

pub loop-records-preserved : goal.loop-records-preserved
loop-records-preserved c =
    one_more c.loop-records.records.items c.add.new.items.items _ c.args.count None
    (omega (arith, c.loop-records-test.true, c.len.ensures)) c.loop-records.invariant c.in_ok-add.ensures
