use Rattle.std.proofs.Common.{◌≡◌, refl, subst, arith}
use Rattle.std.specs.List.{slice_get}
use Rattle.pyd_runs.specs.Records.{node_at}
use Rattle.pyd_core.specs.declared.keeper.Core.{Core}
use Rattle.pyd_core.proofs.Lost.{have_marks, seat_there}
use Rattle.pyd_core.proofs.Trimmed.{makes_trim, place_there, room_of_trim}
use Rattle.pyd_core.proofs.keeper.Core.trim.Goals as goal

pub forget-requires : goal.forget-requires
forget-requires c =
    let first = subst (λ ns. slice_get ns c.place_of-at.result ≡ node_at ns c.args.node)
    c.past.ensures c.place_of-at.ensures in
    record {
      place = place_there c.run_law.ensures c.args.self.now c.args.seat c.args.node (record {
        core = c.requires.core;
        quiet = c.requires.quiet;
        seated = c.requires.seat;
        room = c.requires.room;
        may = c.requires.may;
      }) c.place_of-at.result first;
      nodes = c.requires.core.places.settled;
      numbered = have_marks c.run_law.ensures c.args.self.now c.requires.core;
    }

pub note-requires : goal.note-requires
note-requires c =
    let d = c.args.self.now in
    let room = c.requires.room in
    record {
      room = omega (arith, room, d.log.journal.ok.0);
      seat = seat_there d c.args.seat c.requires.core c.requires.seat;
      counted = c.requires.core.counted;
    }

pub returns-clause-makes : goal.returns-clause-makes
returns-clause-makes c =
    let old = c.args.self.now in
    let new : Core = record old {
      line = c.forget.new.line;
      desk = c.forget.new.self;
      log = c.note.new.self;
    } in
    let first = subst (λ ns. slice_get ns c.place_of-at.result ≡ node_at ns c.args.node)
    c.past.ensures c.place_of-at.ensures in
    makes_trim c.run_law.ensures old c.args.seat c.args.node (record {
      core = c.requires.core;
      quiet = c.requires.quiet;
      seated = c.requires.seat;
      room = c.requires.room;
      may = c.requires.may;
    }) c.place_of-at.result first c.step_law.ensures c.journal_law.ensures new (record {
      plan = refl;
      lost = refl;
      end = refl;
      journal = c.note.ensures.journal;
      counted = c.note.ensures.counted;
      seats = c.note.ensures.seats;
      capacity = c.note.ensures.capacity;
      machines = c.forget.ensures.machines;
      settled = c.forget.ensures.within;
    }) c.forget.ensures.trimmed

pub returns-clause-room : goal.returns-clause-room
returns-clause-room c =
    let old = c.args.self.now in
    let new : Core = record old {
      line = c.forget.new.line;
      desk = c.forget.new.self;
      log = c.note.new.self;
    } in
    room_of_trim old new c.args.seat c.args.node (record {
      plan = refl;
      lost = refl;
      end = refl;
      journal = c.note.ensures.journal;
      counted = c.note.ensures.counted;
      seats = c.note.ensures.seats;
      capacity = c.note.ensures.capacity;
      machines = c.forget.ensures.machines;
      settled = c.forget.ensures.within;
    })
