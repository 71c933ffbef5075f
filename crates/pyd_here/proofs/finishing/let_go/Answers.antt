use Rattle.std.proofs.Common.{sym, subst}
use Rattle.pyd_board.specs.declared.event.Act.TheVariants.{Drop}
use Rattle.pyd_runs.specs.Enabled.{CanDrop}
use Rattle.pyd_runs.specs.Plans.{first_seat}
use Rattle.pyd_core.specs.Cores.{plan_of, state_of}
use Rattle.pyd_here.proofs.Holds.{drop_holding, drop_in_vain, drop_machine, drop_releases, has_job, release_here}
use Rattle.pyd_here.proofs.Keeps.{HereLaws}
use Rattle.pyd_here.proofs.finishing.let_go.Goals as goal

pub first_seat-seat-requires-clause-machine : goal.first_seat-seat-requires-clause-machine
first_seat-seat-requires-clause-machine c =
    let old = c.args.core.now in
    drop_machine c.release_law.ensures (record {
      run = c.run_law.ensures;
      step = c.step_law.ensures;
      hold = c.hold_law.ensures;
      take = c.take_law.ensures;
    }) old (first_seat (plan_of old) c.args.machine) c.args.node c.args.attempt c.args.machine
    c.requires.here.is_core c.requires.quiet c.requires.can c.seat_law.ensures

pub take_job-requires : goal.take_job-requires
take_job-requires c =
    let old = c.args.core.now in
    let seat = first_seat (plan_of old) c.args.machine in
    has_job old seat c.args.node c.args.attempt c.args.machine c.args.jobs.now.items
    c.requires.here
    (drop_holding c.release_law.ensures (record {
      run = c.run_law.ensures;
      step = c.step_law.ensures;
      hold = c.hold_law.ensures;
      take = c.take_law.ensures;
    }) old seat c.args.node c.args.attempt c.args.machine c.requires.here.is_core
    c.requires.quiet c.requires.can)

pub let_go-requires-clause-in_vain : goal.let_go-requires-clause-in_vain
let_go-requires-clause-in_vain c =
    let old = c.args.core.now in
    drop_in_vain c.release_law.ensures (record {
      run = c.run_law.ensures;
      step = c.step_law.ensures;
      hold = c.hold_law.ensures;
      take = c.take_law.ensures;
    }) old (first_seat (plan_of old) c.args.machine) c.args.node c.args.attempt c.args.machine
    c.requires.here.is_core c.requires.quiet c.requires.can

pub returns-clause-here : goal.returns-clause-here
returns-clause-here c =
    let laws : HereLaws = record {
      run = c.run_law.ensures;
      step = c.step_law.ensures;
      hold = c.hold_law.ensures;
      take = c.take_law.ensures;
    } in
    let old = c.args.core.now in
    let seat = c.first_seat-seat.result in
    let k = c.args.node in
    let a = c.args.attempt in
    let m = c.args.machine in
    let is = drop_holding c.release_law.ensures laws old seat k a m c.requires.here.is_core
    c.requires.quiet
    (subst (λ by. CanDrop (state_of old) by k a m) (sym c.first_seat-seat.ensures.seat)
    c.requires.can) in
    release_here old seat k a m c.args.jobs.now.items c.requires.here is laws
    c.take_job.new.jobs.items c.take_job.result c.take_job.ensures c.let_go_law.ensures
    c.let_go.new.self (Drop k a m) (drop_releases k a m) c.let_go.ensures
