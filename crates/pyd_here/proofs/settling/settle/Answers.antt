use Rattle.pyd_here.proofs.Settles.{settles_here}
use Rattle.pyd_here.proofs.settling.settle.Goals as goal

pub returns-in-Ok-clause-ok : goal.returns-in-Ok-clause-ok
returns-in-Ok-clause-ok g c =
    settles_here c.args.core.now c.settle.new.core c.own_seat-seat.result c.args.node _ _
    c.requires.can c.own_seat-seat.ensures.seat c.in-Ok.ensures.ok
