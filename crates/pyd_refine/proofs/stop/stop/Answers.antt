use Rattle.pyd_refine.proofs.Ended.{stop_made}
use Rattle.pyd_refine.proofs.stop.stop.Goals as goal

pub returns : goal.returns
returns c =
    stop_made c.args.draft.now c.emit.new.draft _ c.args.at.now.routine c.args.at.now.depth c.args.line c.args.fault _
    c.context.ensures.context c.in_ok-emit.ensures
