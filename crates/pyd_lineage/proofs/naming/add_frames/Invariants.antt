-- What the frames that are left name and what the set has are all.
use Rattle.pyd_lineage.proofs.Sets.{IsOnTheWay}
use Rattle.pyd_lineage.proofs.Walks.{frame_names}
use Rattle.pyd_lineage.proofs.naming.add_frames.Given as goal

abbrev pub invariant-loop-frame : goal.invariant-loop-frame
invariant-loop-frame l = IsOnTheWay frame_names l.rest l.frame-index l.initial.set l.set
