use Rattle.std.proofs.Common.{ap, sym, ◌∙◌}
use Rattle.pyd_board.specs.Histories.{events_alone}
use Rattle.pyd_core.specs.Losing.{losses_by}
use Rattle.pyd_runs.specs.Effects.{first_state}
use Rattle.pyd_runs.specs.Plans.{Plan}
use Rattle.pyd_cluster.specs.declared.known.Known.{Known}
use Rattle.pyd_cluster.proofs.Firsts.{first_come}
use Rattle.pyd_cluster.proofs.cluster.Cluster.begin.Goals as goal

pub start-requires-clause-begins : goal.start-requires-clause-begins
start-requires-clause-begins g c =
    let losses = c.lose_due.ensures.losses in
    first_come c.args.core c.lose_due.new.core c.requires.none losses
    ∙ ap (λ (p : Plan). losses_by 0 (first_state p)) (sym losses.plan)

pub returns-clause-history : goal.returns-clause-history
returns-clause-history g c =
    ap (λ (k : Known). k.history) c.start.ensures
    ∙ ap events_alone (first_come c.args.core c.lose_due.new.core c.requires.none
    c.lose_due.ensures.losses)
