use Rattle.std.proofs.Common.{refl, arith}
use Rattle.pyd_core.proofs.Finishes.{claim_there, done_is, driver_below, finished_below, makes_finish, seat_counted, store_there}
use Rattle.pyd_core.proofs.Stayed.{stays_with}
use Rattle.pyd_core.proofs.keeper.Core.keep.Goals as goal

pub keep_done-requires : goal.keep_done-requires
keep_done-requires c = record {
  node = finished_below (record {
    run = c.run_law.ensures;
    step = c.step_law.ensures;
    journal = c.journal_law.ensures;
    number = c.number_law.ensures;
    seats = c.seat_law.ensures;
    release = c.release_law.ensures;
  }) c.args.self.now c.args.seat c.args.node c.args.attempt c.args.machine c.args.done.now.job
      (record {
        core = c.requires.core;
        unbarred = c.requires.unbarred;
        holds = c.requires.holds;
      }) c.requires.serves;
  driver = driver_below (record {
    run = c.run_law.ensures;
    step = c.step_law.ensures;
    journal = c.journal_law.ensures;
    number = c.number_law.ensures;
    seats = c.seat_law.ensures;
    release = c.release_law.ensures;
  }) c.args.self.now c.args.seat c.args.node c.args.attempt c.args.machine c.args.done.now.job
      (record {
        core = c.requires.core;
        unbarred = c.requires.unbarred;
        holds = c.requires.holds;
      }) c.requires.serves;
  machine = store_there (record {
    run = c.run_law.ensures;
    step = c.step_law.ensures;
    journal = c.journal_law.ensures;
    number = c.number_law.ensures;
    seats = c.seat_law.ensures;
    release = c.release_law.ensures;
  }) c.args.self.now c.args.seat c.args.node c.args.attempt c.args.machine c.args.done.now.job
      (record {
        core = c.requires.core;
        unbarred = c.requires.unbarred;
        holds = c.requires.holds;
      });
  claimed = claim_there (record {
    run = c.run_law.ensures;
    step = c.step_law.ensures;
    journal = c.journal_law.ensures;
    number = c.number_law.ensures;
    seats = c.seat_law.ensures;
    release = c.release_law.ensures;
  }) c.args.self.now c.args.seat c.args.node c.args.attempt c.args.machine c.args.done.now.job
      (record {
        core = c.requires.core;
        unbarred = c.requires.unbarred;
        holds = c.requires.holds;
      }) c.requires.serves;
}

pub note-requires : goal.note-requires
note-requires c =
    let seat = seat_counted (record {
      run = c.run_law.ensures;
      step = c.step_law.ensures;
      journal = c.journal_law.ensures;
      number = c.number_law.ensures;
      seats = c.seat_law.ensures;
      release = c.release_law.ensures;
    }) c.args.self.now c.args.seat c.args.node c.args.attempt c.args.machine c.args.done.now.job
    (record {
      core = c.requires.core;
      unbarred = c.requires.unbarred;
      holds = c.requires.holds;
    }) in
    let room = c.requires.room in
    record {
      room = omega (arith, room, c.args.self.now.log.journal.ok.0);
      seat = seat;
      counted = c.requires.core.counted;
    }

pub returns-in-Ok-clause-ok : goal.returns-in-Ok-clause-ok
returns-in-Ok-clause-ok c =
    makes_finish (record {
      run = c.run_law.ensures;
      step = c.step_law.ensures;
      journal = c.journal_law.ensures;
      number = c.number_law.ensures;
      seats = c.seat_law.ensures;
      release = c.release_law.ensures;
    }) c.args.self.now c.args.seat c.args.node c.args.attempt c.args.machine c.args.done.now.job
    (record {
      core = c.requires.core;
      unbarred = c.requires.unbarred;
      holds = c.requires.holds;
    }) c.requires.serves c.callee_law.ensures c.leave_law.ensures c.args.done.now.ran
    (done_is c.args.done.now c.args.self.now c.requires.file c.requires.limits)
    c.requires.room
    (record c.args.self.now { desk = c.keep_done.new.desk; log = c.note.new.self }) (record {
      plan = refl;
      line = refl;
      lost = refl;
      end = refl;
      journal = c.note.ensures.journal;
      counted = c.note.ensures.counted;
      seats = c.note.ensures.seats;
      capacity = c.note.ensures.capacity;
      machines = c.keep_done.ensures.machines;
    }) c.in-Ok.ensures.ok

pub returns-in-Err-clause-memory : goal.returns-in-Err-clause-memory
returns-in-Err-clause-memory c =
    stays_with c.args.self.now c.keep_done.new.desk c.in-Err.ensures.same c.requires.core
