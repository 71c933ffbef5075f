use Rattle.std.proofs.Common.{◌+◌, refl, arith}
use Rattle.pyd_core.specs.declared.keeper.Core.{Core}
use Rattle.pyd_core.proofs.Lost.{have_marks, is_sound, life_there, loses_one, next_within, room_kept, room_there, seat_there, store_there}
use Rattle.pyd_core.proofs.keeper.Core.lose.Goals as goal

pub lose-requires : goal.lose-requires
lose-requires c =
    let d = c.args.self.now in
    let is_due = c.requires.can.is_due in
    record {
      line = c.requires.core.places.settled;
      numbered = have_marks c.run_law.ensures d c.requires.core;
      store = store_there d c.args.machine c.requires.core is_due;
      alive = life_there d c.args.machine c.requires.core is_due;
    }

pub note-requires : goal.note-requires
note-requires c =
    let d = c.args.self.now in
    let room = room_there d c.args.machine c.requires.core c.requires.can.is_due in
    record {
      room = omega (arith, room, d.log.journal.ok.0);
      seat = seat_there d c.args.seat c.requires.core c.requires.seat;
      counted = c.requires.core.counted;
    }

pub returns-clause-makes : goal.returns-clause-makes
returns-clause-makes c =
    let d = c.args.self.now in
    loses_one d _ c.args.seat c.args.machine (record {
      plan = refl;
      line = refl;
      end = refl;
      lost = omega arith;
      journal = c.note.ensures.journal;
      counted = c.note.ensures.counted;
      seats = c.note.ensures.seats;
      capacity = c.note.ensures.capacity;
      machines = c.lose.ensures.machines;
    }) c.step_law.ensures c.journal_law.ensures c.requires.core c.requires.seat c.requires.can
    (c.lose.ensures.becomes _ _ (is_sound c.run_law.ensures d c.requires.core)
    c.requires.core.tied.state)

pub returns-clause-room : goal.returns-clause-room
returns-clause-room c =
    let d = c.args.self.now in
    let e : Core =
    record d { desk = c.lose.new.self; log = c.note.new.self; lost = d.lost + 1 } in
    room_kept d e c.args.seat c.args.machine (record {
      plan = refl;
      line = refl;
      end = refl;
      lost = omega arith;
      journal = c.note.ensures.journal;
      counted = c.note.ensures.counted;
      seats = c.note.ensures.seats;
      capacity = c.note.ensures.capacity;
      machines = c.lose.ensures.machines;
    }) (next_within d c.args.machine c.requires.core c.requires.can.is_due)
