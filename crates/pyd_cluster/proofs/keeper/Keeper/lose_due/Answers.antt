use Rattle.std.proofs.Common.{subst}
use Rattle.pyd_boards.specs.Calls as call
use Rattle.pyd_boards.specs.Moves.{LosesAll}
use Rattle.pyd_core.specs.Facts.{facts_by, may_come_by}
use Rattle.pyd_cluster.specs.declared.known.Known.{Known}
use Rattle.pyd_cluster.specs.Keeping.{faults_of, name_of}
use Rattle.pyd_cluster.proofs.Claimings.{losses_go_on, losses_stay}
use Rattle.pyd_cluster.proofs.Endings.{may_lose}
use Rattle.pyd_cluster.proofs.Goings.{told}
use Rattle.pyd_cluster.proofs.Movings.{loses_all}
use Rattle.pyd_cluster.proofs.keeper.Keeper.lose_due.Goals as goal

pub lose_due-requires-clause-losses : goal.lose_due-requires-clause-losses
lose_due-requires-clause-losses g c =
    let kept = c.self.invariant.1 in may_lose _ _ kept.legal kept.begun c.args.who.seat

pub invariant_of-self : goal.invariant_of-self
invariant_of-self g c =
    let i = c.self.inside in
    let is = c.self.invariant in
    losses_stay i.core c.lose_due.new.core is.0 i.fault i.halt _ _ is.1 c.args.who.seat
    c.lose_due.ensures.losses

pub returns-clause-goes_on : goal.returns-clause-goes_on
returns-clause-goes_on g c =
    let i = c.self.inside in
    let d = c.lose_due.new.core in
    let is = c.self.invariant in
    subst (λ (k : Known). call.GoesOnBy (may_come_by (name_of k)) c.args.who.seat k.history
    (told d (faults_of i.fault) i.halt)) c.self.view_is
    (losses_go_on i.core d is.0 i.fault i.halt _ _ is.1 c.next_law.ensures c.args.who.seat
    c.lose_due.ensures.losses)

pub returns-clause-losses : goal.returns-clause-losses
returns-clause-losses g c =
    let i = c.self.inside in
    let d = c.lose_due.new.core in
    subst (λ (k : Known). LosesAll (facts_by (name_of k)) (may_come_by (name_of k)) k.history
    (told d (faults_of i.fault) i.halt)) c.self.view_is
    (loses_all c.beginning_law.ensures i.core d c.args.who.seat c.lose_due.ensures.losses
    (faults_of i.fault) i.halt)
