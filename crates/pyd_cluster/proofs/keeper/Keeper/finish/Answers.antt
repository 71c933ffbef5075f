use Rattle.std.proofs.Common.{IfOk, OnErr, ap, sym, subst, ◌∙◌}
use Rattle.pyd_boards.specs.Boards.{HoldsJob}
use Rattle.pyd_boards.specs.Calls as call
use Rattle.pyd_runs.specs.Plans.{limits_of}
use Rattle.pyd_core.specs.Facts.{facts_by, may_come_by}
use Rattle.pyd_cluster.specs.declared.known.Known.{Known}
use Rattle.pyd_cluster.specs.Keeping.{faults_of, name_of, plan_of}
use Rattle.pyd_cluster.proofs.Claimings.{finish_claims, finish_goes_on, finish_stays, memory_loses}
use Rattle.pyd_cluster.proofs.Endings.{may_lose}
use Rattle.pyd_cluster.proofs.Goings.{told}
use Rattle.pyd_cluster.proofs.Held.{HeldLaws, done_under, holds_claim}
use Rattle.pyd_cluster.proofs.keeper.Keeper.finish.Goals as goal

pub finish-requires-clause-losses : goal.finish-requires-clause-losses
finish-requires-clause-losses g c =
    let kept = c.self.invariant.1 in may_lose _ _ kept.legal kept.begun c.args.who.seat

pub finish-requires-clause-holds : goal.finish-requires-clause-holds
finish-requires-clause-holds g c =
    let job = c.args.done.now.job in
    let laws : HeldLaws = record {
      beginning = c.beginning_law.ensures;
      since = c.since_law.ensures;
      next = c.next_law.ensures;
      lawful = c.lawful_law.ensures;
    } in
    holds_claim laws c.self.inside.core c.self.invariant.0 c.args.who job
    (subst (λ (k : Known). HoldsJob (facts_by (name_of k)) c.args.who job k.history.events)
    (sym c.self.view_is) c.requires.held)

pub finish-requires-clause-file : goal.finish-requires-clause-file
finish-requires-clause-file g c =
    let done = c.args.done.now in
    let under = done_under c.args.self.now.run done.file.value done.limits c.requires.basis in
    under.same_file ∙ sym (ap (λ (k : Known). k.run.file) c.self.view_is)

pub finish-requires-clause-limits : goal.finish-requires-clause-limits
finish-requires-clause-limits g c =
    let done = c.args.done.now in
    let under = done_under c.args.self.now.run done.file.value done.limits c.requires.basis in
    under.same_limits
    ∙ sym (ap (λ (k : Known). limits_of (plan_of k)) c.self.view_is)

pub invariant_of-self : goal.invariant_of-self
invariant_of-self g c =
    let i = c.self.inside in
    let d = c.finish.new.core in
    let is = c.self.invariant in
    let job = c.args.done.now.job in
    finish_stays i.core d is.0 i.fault i.halt _ _ is.1 job.node job.attempt c.args.who
    c.finish.result c.finish.ensures.finishes c.finish.ensures.memory

pub returns-clause-goes_on : goal.returns-clause-goes_on
returns-clause-goes_on g c =
    let i = c.self.inside in
    let d = c.finish.new.core in
    let is = c.self.invariant in
    let job = c.args.done.now.job in
    subst (λ (k : Known). call.GoesOnBy (may_come_by (name_of k)) c.args.who.seat k.history
    (told d (faults_of i.fault) i.halt)) c.self.view_is
    (finish_goes_on i.core d is.0 i.fault i.halt _ _ is.1 job.node job.attempt c.args.who
    c.next_law.ensures c.finish.result c.finish.ensures.finishes c.finish.ensures.memory)

pub returns-clause-answer : goal.returns-clause-answer
returns-clause-answer g c =
    let i = c.self.inside in
    let d = c.finish.new.core in
    let is = c.self.invariant in
    let job = c.args.done.now.job in
    let laws : HeldLaws = record {
      beginning = c.beginning_law.ensures;
      since = c.since_law.ensures;
      next = c.next_law.ensures;
      lawful = c.lawful_law.ensures;
    } in
    subst (λ (k : Known). (held : HoldsJob (facts_by (name_of k)) c.args.who job
    k.history.events) → IfOk c.finish.result (λ answer. call.Finishes (facts_by (name_of k))
    (may_come_by (name_of k)) held.claim c.args.who k.history answer
    (told d (faults_of i.fault) i.halt))) c.self.view_is
    (λ held. finish_claims i.core d is.0 i.fault i.halt _ _ is.1 laws c.args.who job held
    c.finish.result c.finish.ensures.finishes)

pub returns-clause-memory : goal.returns-clause-memory
returns-clause-memory g c =
    let i = c.self.inside in
    let d = c.finish.new.core in
    let is = c.self.invariant in
    subst (λ (k : Known). OnErr c.finish.result (call.LosesIn (facts_by (name_of k))
    (may_come_by (name_of k)) 0 k.history (told d (faults_of i.fault) i.halt))) c.self.view_is
    (memory_loses i.core d is.0 i.fault i.halt _ _ is.1 c.beginning_law.ensures c.args.who.seat
    c.finish.result c.finish.ensures.memory)
