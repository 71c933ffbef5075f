use Rattle.std.proofs.Common.{sym, subst, ◌∙◌}
use Rattle.pyd_board.specs.declared.event.Act.TheVariants.{Finish}
use Rattle.pyd_runs.specs.Enabled.{Holds}
use Rattle.pyd_runs.specs.Plans.{first_seat}
use Rattle.pyd_core.specs.Cores.{plan_of, state_of}
use Rattle.pyd_here.specs.Going.{basis_by}
use Rattle.pyd_here.proofs.Holds.{finish_releases, fits, has_job, holding, is_its, made_finish, release_here, serves_here}
use Rattle.pyd_here.proofs.Keeps.{HereLaws}
use Rattle.pyd_here.proofs.finishing.finish.Goals as goal

pub take_job-job-requires : goal.take_job-job-requires
take_job-job-requires g c =
    let old = c.args.core.now in
    let seat = first_seat (plan_of old) c.args.machine in
    has_job old seat c.args.node c.args.attempt c.args.machine c.args.jobs.now.items
    c.requires.here
    (holding (state_of old) seat c.args.node c.args.attempt c.args.machine c.requires.can.holds)

pub run-requires : goal.run-requires
run-requires g c =
    let old = c.args.core.now in
    let seat = first_seat (plan_of old) c.args.machine in
    record {
      serves = (
        basis_by (plan_of old),
        serves_here (plan_of old) _ c.requires.bases,
        fits old seat c.args.node c.args.attempt c.args.machine c.args.jobs.now.items
            c.requires.here
            (holding (state_of old) seat c.args.node c.args.attempt c.args.machine
            c.requires.can.holds)
            (record {
              run = c.run_law.ensures;
              step = c.step_law.ensures;
              hold = c.hold_law.ensures;
              take = c.take_law.ensures;
            }) c.take_job-job.new.jobs.items c.take_job-job.result c.take_job-job.ensures
            c.silent_law.ensures c.callee_law.ensures,
      );
    }

pub finish-answer-requires-clause-holds : goal.finish-answer-requires-clause-holds
finish-answer-requires-clause-holds g c =
    let old = c.args.core.now in
    let seat = c.first_seat-seat.result in
    let is = holding (state_of old) seat c.args.node c.args.attempt c.args.machine
    (subst (λ by. Holds ((state_of old).desk.claim c.args.node) by c.args.attempt c.args.machine)
    (sym c.first_seat-seat.ensures.seat) c.requires.can.holds) in
    record {
      claim = is.claim;
      held = is.held;
      of_seat = is.of_seat;
      of_job = sym (c.in-Ok.ensures.ok
          ∙ is_its old seat c.args.node c.args.attempt c.args.machine c.args.jobs.now.items
          c.requires.here is (record {
            run = c.run_law.ensures;
            step = c.step_law.ensures;
            hold = c.hold_law.ensures;
            take = c.take_law.ensures;
          }) c.take_job-job.new.jobs.items c.take_job-job.result c.take_job-job.ensures);
    }

pub returns-in-Ok-answer-clause-here : goal.returns-in-Ok-answer-clause-here
returns-in-Ok-answer-clause-here g c =
    let laws : HereLaws = record {
      run = c.run_law.ensures;
      step = c.step_law.ensures;
      hold = c.hold_law.ensures;
      take = c.take_law.ensures;
    } in
    let old = c.args.core.now in
    let seat = c.first_seat-seat.result in
    let k = c.args.node in
    let a = c.args.attempt in
    let m = c.args.machine in
    let is = holding (state_of old) seat k a m
    (subst (λ by. Holds ((state_of old).desk.claim k) by a m)
    (sym c.first_seat-seat.ensures.seat) c.requires.can.holds) in
    release_here old seat k a m c.args.jobs.now.items c.requires.here is laws
    c.take_job-job.new.jobs.items c.take_job-job.result c.take_job-job.ensures
    c.let_go_law.ensures c.finish-answer.new.self (Finish k a m) (finish_releases k a m)
    (made_finish old c.finish-answer.new.self seat k a m c.requires.quiet c.requires.can.lives
    c.in-Ok-answer.field-0 c.in-Ok-answer.ensures.answer c.in-Ok-answer.ensures.entry)
