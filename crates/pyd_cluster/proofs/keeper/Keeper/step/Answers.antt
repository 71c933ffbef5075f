use Rattle.std.proofs.Common.{true, sym, subst}
use Rattle.pyd_boards.specs.Boards.{IsSeatIn}
use Rattle.pyd_boards.specs.Calls as call
use Rattle.pyd_boards.specs.Moves as moves
use Rattle.pyd_core.specs.Facts.{facts_by, may_come_by}
use Rattle.pyd_cluster.specs.declared.known.Known.{Known}
use Rattle.pyd_cluster.specs.Keeping.{fault_by, faults_of, halt_by, name_of}
use Rattle.pyd_cluster.proofs.Claimings.{losses_go_on, losses_stay}
use Rattle.pyd_cluster.proofs.Endings.{may_lose}
use Rattle.pyd_cluster.proofs.Goings.{told}
use Rattle.pyd_cluster.proofs.Kept.{halts_by}
use Rattle.pyd_cluster.proofs.Moved.{step_stays}
use Rattle.pyd_cluster.proofs.Movings.{StepLaws, loses_first, steps_as}
use Rattle.pyd_cluster.proofs.Steppings.{on_err, step_goes_on, step_numbered, steps_by}
use Rattle.pyd_cluster.proofs.keeper.Keeper.step.Goals as goal

pub step-requires-clause-losses : goal.step-requires-clause-losses
step-requires-clause-losses g c =
    let kept = c.self.invariant.1 in may_lose _ _ kept.legal kept.begun c.args.who.seat

pub invariant_of-self : goal.invariant_of-self
invariant_of-self g c =
    let i = c.self.inside in
    let is = c.self.invariant in
    rw (c.in_err-moved.ensures.same)
    (losses_stay i.core c.step.new.core is.0 i.fault i.halt _ _ is.1 c.args.who.seat
    c.in_err-moved.ensures.memory)

pub returns-in_err-moved-clause-goes_on : goal.returns-in_err-moved-clause-goes_on
returns-in_err-moved-clause-goes_on g c =
    let i = c.self.inside in
    let d = c.step.new.core in
    let is = c.self.invariant in
    subst (λ (k : Known). call.GoesOnBy (may_come_by (name_of k)) c.args.who.seat k.history
    (told d (faults_of i.fault) i.halt)) c.self.view_is
    (losses_go_on i.core d is.0 i.fault i.halt _ _ is.1 c.next_law.ensures c.args.who.seat
    c.in_err-moved.ensures.memory)

pub returns-in_err-moved-clause-memory : goal.returns-in_err-moved-clause-memory
returns-in_err-moved-clause-memory g c =
    let i = c.self.inside in
    let d = c.step.new.core in
    on_err c.from_residual.result _
    (subst (λ (k : Known). moves.LosesFirst (facts_by (name_of k)) (may_come_by (name_of k)) true
    k.history (told d (faults_of i.fault) i.halt)) c.self.view_is
    (loses_first c.beginning_law.ensures i.core d c.args.who.seat c.in_err-moved.ensures.memory
    (faults_of i.fault) i.halt))

pub invariant_of-self-2 : goal.invariant_of-self-2
invariant_of-self-2 g c =
    let i = c.self.inside in
    let d = c.step.new.core in
    let is = c.self.invariant in
    let moved = c.in_ok-moved.moved in
    rw (c.fault_behind-self-inside.ensures, c.halt_behind-self-inside.ensures)
    (step_stays i.core d is.0 i.halt c.args.who
    (subst (λ (k : Known). IsSeatIn k.run.setup c.args.who) (sym c.self.view_is) c.requires.who)
    _ _ _ i.fault is.1 moved
    (steps_by i.core d c.args.who _ _ moved _ _ c.is_some-halted.ensures
    c.in_ok-moved.ensures.steps))

pub returns-clause-goes_on : goal.returns-clause-goes_on
returns-clause-goes_on g c =
    let i = c.self.inside in
    let d = c.step.new.core in
    let is = c.self.invariant in
    let moved = c.in_ok-moved.moved in
    let laws : StepLaws = record {
      beginning = c.beginning_law.ensures;
      journal = c.journal_law.ensures;
    } in
    rw (c.fault_behind-self-inside.ensures, c.halt_behind-self-inside.ensures)
    (subst (λ (k : Known). call.GoesOnBy (may_come_by (name_of k)) c.args.who.seat k.history
    (told d (faults_of (fault_by moved i.fault)) (halt_by moved i.halt))) c.self.view_is
    (step_goes_on c.next_law.ensures laws i.core d is.0 c.args.self.now.run i.fault i.halt
    (halts_by i.fault _ is.1) c.args.who
    (subst (λ (k : Known). IsSeatIn k.run.setup c.args.who) (sym c.self.view_is) c.requires.who)
    _ _ moved
    (steps_by i.core d c.args.who _ _ moved _ _ c.is_some-halted.ensures
    c.in_ok-moved.ensures.steps)))

pub returns-clause-answer : goal.returns-clause-answer
returns-clause-answer g c =
    let i = c.self.inside in
    let d = c.step.new.core in
    let is = c.self.invariant in
    let moved = c.in_ok-moved.moved in
    let laws : StepLaws = record {
      beginning = c.beginning_law.ensures;
      journal = c.journal_law.ensures;
    } in
    rw (c.fault_behind-self-inside.ensures, c.halt_behind-self-inside.ensures)
    (subst (λ (k : Known). moves.Steps (facts_by (name_of k)) (may_come_by (name_of k)) true
    (name_of k) c.args.who k.history moved
    (told d (faults_of (fault_by moved i.fault)) (halt_by moved i.halt))) c.self.view_is
    (steps_as laws i.core d is.0 _ i.fault i.halt (halts_by i.fault _ is.1) c.args.who
    (subst (λ (k : Known). IsSeatIn k.run.setup c.args.who) (sym c.self.view_is) c.requires.who)
    _ _ moved
    (steps_by i.core d c.args.who _ _ moved _ _ c.is_some-halted.ensures
    c.in_ok-moved.ensures.steps)))

pub returns-clause-numbered : goal.returns-clause-numbered
returns-clause-numbered g c =
    let i = c.self.inside in
    step_numbered c.number_law.ensures i.core c.step.new.core c.self.invariant.0
    c.is_some-halted.result c.args.who _ _ c.next_number.result c.next_number.ensures.value
    c.next_number.ensures.few c.in_ok-moved.moved c.in_ok-moved.ensures.steps
