use Rattle.pyd_core.proofs.Pieces.{at_failure, at_success, quiet_still, refinable_still, refines_from, seat_still, stays_from}
use Rattle.pyd_core.proofs.keeper.Core.refine.Goals as goal

pub refine_reserved-requires : goal.refine_reserved-requires
refine_reserved-requires c =
    let old = c.args.self.now in
    let new = c.make_room.new.self in
    let stay = c.make_room.ensures.stays in
    record {
      core = stay.core;
      room = c.in_ok-make_room.ensures.room;
      quiet = quiet_still old new c.requires.core stay c.requires.quiet;
      seat = seat_still old new c.requires.core stay c.args.seat c.requires.seat;
      may = refinable_still old new c.requires.core stay c.args.at c.requires.may;
    }

pub returns-clause-ok : goal.returns-clause-ok
returns-clause-ok c =
    at_success c.refine_reserved.result _ _
    (refines_from c.args.self.now c.make_room.new.self c.requires.core c.make_room.ensures.stays
    c.refine_reserved.new.self c.args.seat c.args.at)
    c.refine_reserved.ensures.ok

pub returns-clause-memory : goal.returns-clause-memory
returns-clause-memory c =
    at_failure c.refine_reserved.result _ _
    (stays_from c.args.self.now c.make_room.new.self c.requires.core c.make_room.ensures.stays
    c.refine_reserved.new.self)
    c.refine_reserved.ensures.memory
