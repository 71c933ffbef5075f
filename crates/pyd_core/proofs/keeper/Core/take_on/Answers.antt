use Rattle.std.proofs.Common.{refl}
use Rattle.pyd_core.specs.declared.keeper.Core.{Core}
use Rattle.pyd_core.proofs.Claimed.{makes_claim}
use Rattle.pyd_core.proofs.keeper.Core.take_on.Goals as goal

pub returns : goal.returns
returns c =
    let old = c.args.self.now in
    let new : Core = record old { desk = c.take_on.new.self; log = c.note.new.self } in
    makes_claim old c.args.seat c.args.node c.args.attempt c.args.machine c.args.job.now
    (record {
      core = c.requires.core;
      quiet = c.requires.quiet;
      of = c.requires.of;
      lives = c.requires.lives;
      live = c.requires.job;
    })
    c.step_law.ensures c.journal_law.ensures c.requires.room new
    (record {
      plan = refl;
      line = refl;
      lost = refl;
      end = refl;
      journal = c.note.ensures.journal;
      counted = c.note.ensures.counted;
      seats = c.note.ensures.seats;
      capacity = c.note.ensures.capacity;
      machines = c.take_on.ensures.machines;
    })
    c.take_on.ensures.becomes
