use Rattle.pyd_source.proofs.Prefixes.{added_none}
use Rattle.pyd_top.specs.declared.mode.Mode.TheVariants as mode
use Rattle.pyd_top.proofs.Concluding.{stopped}
use Rattle.pyd_top.proofs.graph.graph.Goals as goal

pub returns-in-Err-clause-concludes : goal.returns-in-Err-clause-concludes
returns-in-Err-clause-concludes g c =
    rw c.stopped_by.ensures (stopped mode.Graph c.args.bytes.now _ c.in-Err.stop c.in-Err.ensures.err (added_none _))
