use Rattle.pyd_steps.specs.Sinks.{told_by}
use Rattle.pyd_cluster.proofs.Firsts.{first_kept}
use Rattle.pyd_cluster.proofs.keeper.Keeper.start.Goals as goal

pub invariant_of-result : goal.invariant_of-result
invariant_of-result g c =
    let sink = c.args.sink in
    let told = told_by (g.K.Sink.held sink) (g.K.Sink.room sink) (g.K.Sink.sure sink)
    (g.K.Sink.faults sink) in
    rw (c.of-opening.ensures) (first_kept c.args.core told c.requires.core c.requires.begins)
