use Rattle.std.proofs.Common.{subst}
use Rattle.pyd_core.proofs.Settled.{HasSettled, driver_there, entered, head_number, settles_head}
use Rattle.pyd_core.proofs.keeper.Core.settle.Goals as goal

pub leave-requires-clause-driver : goal.leave-requires-clause-driver
leave-requires-clause-driver c =
    driver_there c.args.self.now c.args.seat c.args.settling (record {
      core = c.requires.core;
      quiet = c.requires.quiet;
      is_seat = c.requires.seat;
      room = c.requires.room;
      prepared = c.requires.is;
    }) c.run_law.ensures

pub returns-clause-settles : goal.returns-clause-settles
returns-clause-settles c =
    settles_head c.args.self.now c.args.seat c.args.settling (record {
      core = c.requires.core;
      quiet = c.requires.quiet;
      is_seat = c.requires.seat;
      room = c.requires.room;
      prepared = c.requires.is;
    }) (record c.leave.new.self { log = c.note.new.self })
    (subst (λ k. HasSettled c.args.self.now (record c.leave.new.self { log = c.note.new.self })
    c.args.seat k c.args.settling.leaves)
    (head_number c.args.self.now c.args.seat c.args.settling (record {
      core = c.requires.core;
      quiet = c.requires.quiet;
      is_seat = c.requires.seat;
      room = c.requires.room;
      prepared = c.requires.is;
    }) c.head.result.now c.head.ensures)
    (entered c.args.self.now c.leave.new.self c.note.new.self c.args.seat c.head.result.now.id
    c.args.settling.leaves c.leave.ensures (record {
      journal = c.note.ensures.journal;
      counted = c.note.ensures.counted;
      seats = c.note.ensures.seats;
      capacity = c.note.ensures.capacity;
    })))
    c.run_law.ensures c.step_law.ensures c.journal_law.ensures
