use Rattle.std.proofs.Common.{arith}
use Rattle.std.proofs.lemmas.Result.{on_ok_weaker}
use Rattle.pyd_core.proofs.Roomed.{room_grown, stays_grown}
use Rattle.pyd_core.proofs.keeper.Core.make_room.Goals as goal

pub returns-clause-room : goal.returns-clause-room
returns-clause-room c =
    let small = c.make_room.new.self.journal.small in
    let all = c.make_room.new.self.journal.ok.0 in
    let left = c.saturating_sub-losses.ensures in
    let count = c.len.ensures in
    let asked = c.saturating_add.ensures in
    on_ok_weaker _ (λ fit. room_grown c.args.self.now c.make_room.new.self (record {
      journal = c.make_room.ensures.journal;
      counts = c.make_room.ensures.counts;
      grows = c.make_room.ensures.grows;
    }) c.args.entries c.saturating_sub-losses.result (omega (arith, left, count))
    (omega (arith, fit, small, all, asked))) c.make_room.ensures.room

pub returns-clause-stays : goal.returns-clause-stays
returns-clause-stays c =
    stays_grown c.args.self.now c.make_room.new.self (record {
      journal = c.make_room.ensures.journal;
      counts = c.make_room.ensures.counts;
      grows = c.make_room.ensures.grows;
    }) c.requires.core
