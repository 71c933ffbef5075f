use Rattle.std.proofs.Common.{ap, sym, ◌∙◌}
use Rattle.pyd_core.specs.Finishing.{answer_by}
use Rattle.pyd_core.proofs.Finishes.{file_still, finishing_still, limits_still, makes_on, vain_still}
use Rattle.pyd_core.proofs.Stayed.{stays_on}
use Rattle.pyd_core.proofs.keeper.Core.finish.Goals as goal

pub let_go-requires : goal.let_go-requires
let_go-requires c =
    let is = finishing_still c.args.self.now c.make_room.new.self c.make_room.ensures.stays
    c.args.seat c.args.node c.args.attempt c.args.machine c.args.done.now.job (record {
      core = c.requires.core;
      unbarred = c.requires.unbarred;
      holds = c.requires.holds;
    }) in
    record {
      core = is.core;
      unbarred = is.unbarred;
      holds = record {
        claim = is.holds.claim;
        held = is.holds.held;
        of_seat = is.holds.of_seat;
      };
      in_vain = sym c.if-is_in_vain.ensures;
      room = c.in_ok-make_room.ensures.room;
    }

pub keep-requires : goal.keep-requires
keep-requires c =
    let is = finishing_still c.args.self.now c.make_room.new.self c.make_room.ensures.stays
    c.args.seat c.args.node c.args.attempt c.args.machine c.args.done.now.job (record {
      core = c.requires.core;
      unbarred = c.requires.unbarred;
      holds = c.requires.holds;
    }) in
    record {
      core = is.core;
      unbarred = is.unbarred;
      holds = is.holds;
      serves = sym c.if-is_in_vain.ensures;
      room = c.in_ok-make_room.ensures.room;
      file = c.requires.file
          ∙ file_still c.args.self.now c.make_room.new.self c.make_room.ensures.stays;
      limits = c.requires.limits
          ∙ limits_still c.args.self.now c.make_room.new.self c.make_room.ensures.stays;
    }

pub returns-then-is_in_vain-clause-answer : goal.returns-then-is_in_vain-clause-answer
returns-then-is_in_vain-clause-answer c =
    ap answer_by (c.if-is_in_vain.ensures
    ∙ vain_still c.args.self.now c.make_room.new.self c.make_room.ensures.stays c.args.machine)

pub returns-then-is_in_vain-clause-entry : goal.returns-then-is_in_vain-clause-entry
returns-then-is_in_vain-clause-entry c =
    makes_on c.args.self.now c.make_room.new.self c.make_room.ensures.stays c.let_go.new.self
    c.args.seat _ c.let_go.ensures

pub returns-in-Ok-clause-answer : goal.returns-in-Ok-clause-answer
returns-in-Ok-clause-answer c =
    ap answer_by (c.if-is_in_vain.ensures
    ∙ vain_still c.args.self.now c.make_room.new.self c.make_room.ensures.stays c.args.machine)

pub returns-in-Ok-clause-entry : goal.returns-in-Ok-clause-entry
returns-in-Ok-clause-entry c =
    makes_on c.args.self.now c.make_room.new.self c.make_room.ensures.stays c.keep.new.self
    c.args.seat _ c.in-Ok.ensures.ok

pub returns-in-Err-clause-memory : goal.returns-in-Err-clause-memory
returns-in-Err-clause-memory c =
    stays_on c.args.self.now c.make_room.new.self c.make_room.ensures.stays c.keep.new.self
    c.in-Err.ensures.memory
