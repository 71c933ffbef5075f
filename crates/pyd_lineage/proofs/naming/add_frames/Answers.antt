use Rattle.std.proofs.Common.{subst, arith}
use Rattle.pyd_lineage.specs.Marking.{Adds}
use Rattle.pyd_lineage.proofs.Sets.{walked}
use Rattle.pyd_lineage.proofs.Walks.{frame_names, frames_name}
use Rattle.pyd_lineage.proofs.naming.add_frames.Goals as goal

pub returns : goal.returns
returns c =
    subst (Adds c.args.set.now c.loop-frame.set) (frames_name c.args.rest.now)
    (walked frame_names c.args.rest.now c.loop-frame.frame-index c.args.set.now c.loop-frame.set
    (omega arith) c.loop-frame.invariant)
