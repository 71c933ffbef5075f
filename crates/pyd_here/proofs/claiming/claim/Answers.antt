use Rattle.std.proofs.Common.{◌∷◌, ◌++◌, [], Option, MatchOption, ap, sym, subst, ◌∙◌}
use Rattle.pyd_board.specs.declared.event.Act.TheVariants.{Claim}
use Rattle.pyd_ir.specs.declared.job.Job.{Job}
use Rattle.pyd_core.specs.Steps.{Makes, Stays}
use Rattle.pyd_here.specs.Going.{IsHere}
use Rattle.pyd_here.proofs.Holds.{claim_here}
use Rattle.pyd_here.proofs.Keeps.{HereLaws}
use Rattle.pyd_here.proofs.claiming.claim.Goals as goal

pub returns-in-Some-clause-here : goal.returns-in-Some-clause-here
returns-in-Some-clause-here c =
    let laws : HereLaws = record {
      run = c.run_law.ensures;
      step = c.step_law.ensures;
      hold = c.hold_law.ensures;
      take = c.take_law.ensures;
    } in
    let old = c.args.core.now in
    let new = c.claim.new.self in
    let seat = c.first_seat-seat.result in
    let act = Claim c.args.node c.args.attempt c.args.machine in
    subst (IsHere new)
    (sym (c.push_reserved.ensures.items ∙ ap (λ js. js ++ c.in-Some.job ∷ []) c.reserve.ensures.items))
    (claim_here laws c.claimed_law.ensures old new seat c.args.node c.args.attempt c.args.machine
    c.args.jobs.now.items c.in-Some.job c.requires.here c.first_seat-seat.ensures.seat
    c.requires.can
    (subst (λ (o : Option Job). MatchOption o (Stays old new) (λ _. Makes old new seat act))
    c.in-Some.is c.in_ok-job.ensures.claims)
    (sym c.in-Some.is ∙ c.in_ok-job.ensures.job))
