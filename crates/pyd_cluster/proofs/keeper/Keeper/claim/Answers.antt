use Rattle.std.proofs.Common.{IfOk, OnErr, ap, sym, subst}
use Rattle.pyd_boards.specs.Calls as call
use Rattle.pyd_core.specs.Facts.{facts_by, may_come_by}
use Rattle.pyd_steps.specs.Claiming.{Claims}
use Rattle.pyd_cluster.specs.declared.known.Known.{Known}
use Rattle.pyd_cluster.specs.Keeping.{faults_of, name_of}
use Rattle.pyd_cluster.proofs.Claimings.{claim_answers, claim_fits, claim_goes_on, claim_stays, memory_loses}
use Rattle.pyd_cluster.proofs.Endings.{may_lose}
use Rattle.pyd_cluster.proofs.Goings.{told}
use Rattle.pyd_cluster.proofs.keeper.Keeper.claim.Goals as goal

pub claim-requires-clause-losses : goal.claim-requires-clause-losses
claim-requires-clause-losses g c =
    let kept = c.self.invariant.1 in may_lose _ _ kept.legal kept.begun c.args.who.seat

pub invariant_of-self : goal.invariant_of-self
invariant_of-self g c =
    let i = c.self.inside in
    let d = c.claim.new.core in
    let is = c.self.invariant in
    claim_stays i.core d is.0 i.fault i.halt _ _ is.1 c.args.ticket c.args.who c.claim.result
    (subst (λ halted. IfOk c.claim.result (Claims halted i.core d c.args.ticket c.args.who))
    c.is_some.ensures c.claim.ensures.claims) c.claim.ensures.memory

pub returns-clause-goes_on : goal.returns-clause-goes_on
returns-clause-goes_on g c =
    let i = c.self.inside in
    let d = c.claim.new.core in
    let is = c.self.invariant in
    subst (λ (k : Known). call.GoesOnBy (may_come_by (name_of k)) c.args.who.seat k.history
    (told d (faults_of i.fault) i.halt)) c.self.view_is
    (claim_goes_on i.core d is.0 i.fault i.halt _ _ is.1 c.args.ticket c.args.who
    c.next_law.ensures c.claim.result
    (subst (λ halted. IfOk c.claim.result (Claims halted i.core d c.args.ticket c.args.who))
    c.is_some.ensures c.claim.ensures.claims) c.claim.ensures.memory)

pub returns-clause-answer : goal.returns-clause-answer
returns-clause-answer g c =
    let i = c.self.inside in
    let d = c.claim.new.core in
    let is = c.self.invariant in
    subst (λ (k : Known). IfOk c.claim.result (λ answer. call.Claims (facts_by (name_of k))
    (may_come_by (name_of k)) (name_of k) c.args.ticket c.args.who k.history answer
    (told d (faults_of i.fault) i.halt))) c.self.view_is
    (claim_answers i.core d is.0 i.fault i.halt _ _ is.1 c.args.ticket c.args.who
    c.beginning_law.ensures _ c.claim.result
    (subst (λ halted. IfOk c.claim.result (Claims halted i.core d c.args.ticket c.args.who))
    c.is_some.ensures c.claim.ensures.claims))

pub returns-clause-fits : goal.returns-clause-fits
returns-clause-fits g c =
    let i = c.self.inside in
    let d = c.claim.new.core in
    let is = c.self.invariant in
    claim_fits i.core d is.0 i.fault i.halt _ _ is.1 c.args.ticket c.args.who
    c.callee_law.ensures c.silent_law.ensures c.args.self.now.run
    (let same = c.self.view_is in sym (ap (λ (k : Known). k.run.file) (sym same)))
    c.claim.result
    (subst (λ halted. IfOk c.claim.result (Claims halted i.core d c.args.ticket c.args.who))
    c.is_some.ensures c.claim.ensures.claims)

pub returns-clause-memory : goal.returns-clause-memory
returns-clause-memory g c =
    let i = c.self.inside in
    let d = c.claim.new.core in
    let is = c.self.invariant in
    subst (λ (k : Known). OnErr c.claim.result (call.LosesIn (facts_by (name_of k))
    (may_come_by (name_of k)) 0 k.history (told d (faults_of i.fault) i.halt))) c.self.view_is
    (memory_loses i.core d is.0 i.fault i.halt _ _ is.1 c.beginning_law.ensures c.args.who.seat
    c.claim.result c.claim.ensures.memory)
