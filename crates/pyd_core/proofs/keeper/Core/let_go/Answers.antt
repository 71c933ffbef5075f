use Rattle.std.proofs.Common.{refl, arith}
use Rattle.pyd_core.proofs.Finishes.{dropped_below, makes_drop, seat_counted}
use Rattle.pyd_core.proofs.keeper.Core.let_go.Goals as goal

pub let_go-requires : goal.let_go-requires
let_go-requires c =
    dropped_below (record {
      run = c.run_law.ensures;
      step = c.step_law.ensures;
      journal = c.journal_law.ensures;
      number = c.number_law.ensures;
      seats = c.seat_law.ensures;
      release = c.release_law.ensures;
    }) c.args.self.now c.args.seat c.args.node c.args.attempt c.args.machine c.requires.holds.claim.job
    (record {
      core = c.requires.core;
      unbarred = c.requires.unbarred;
      holds = record {
        claim = c.requires.holds.claim;
        held = c.requires.holds.held;
        of_seat = c.requires.holds.of_seat;
        of_job = refl;
      };
    }) c.requires.in_vain

pub note-requires : goal.note-requires
note-requires c =
    let seat = seat_counted (record {
      run = c.run_law.ensures;
      step = c.step_law.ensures;
      journal = c.journal_law.ensures;
      number = c.number_law.ensures;
      seats = c.seat_law.ensures;
      release = c.release_law.ensures;
    }) c.args.self.now c.args.seat c.args.node c.args.attempt c.args.machine c.requires.holds.claim.job
    (record {
      core = c.requires.core;
      unbarred = c.requires.unbarred;
      holds = record {
        claim = c.requires.holds.claim;
        held = c.requires.holds.held;
        of_seat = c.requires.holds.of_seat;
        of_job = refl;
      };
    }) in
    let room = c.requires.room in
    record {
      room = omega (arith, room, c.args.self.now.log.journal.ok.0);
      seat = seat;
      counted = c.requires.core.counted;
    }

pub returns : goal.returns
returns c =
    makes_drop (record {
      run = c.run_law.ensures;
      step = c.step_law.ensures;
      journal = c.journal_law.ensures;
      number = c.number_law.ensures;
      seats = c.seat_law.ensures;
      release = c.release_law.ensures;
    }) c.args.self.now c.args.seat c.args.node c.args.attempt c.args.machine c.requires.holds.claim.job
    (record {
      core = c.requires.core;
      unbarred = c.requires.unbarred;
      holds = record {
        claim = c.requires.holds.claim;
        held = c.requires.holds.held;
        of_seat = c.requires.holds.of_seat;
        of_job = refl;
      };
    }) c.requires.in_vain c.requires.room
    (record c.args.self.now { desk = c.let_go.new.self; log = c.note.new.self }) (record {
      plan = refl;
      line = refl;
      lost = refl;
      end = refl;
      journal = c.note.ensures.journal;
      counted = c.note.ensures.counted;
      seats = c.note.ensures.seats;
      capacity = c.note.ensures.capacity;
      machines = c.let_go.ensures.machines;
    }) c.let_go.ensures.becomes
