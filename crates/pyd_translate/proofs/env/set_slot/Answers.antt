use Rattle.std.proofs.Common.{◌∙◌}
use Rattle.pyd_translate.proofs.SlotsSet.{local_set, other_set}
use Rattle.pyd_translate.proofs.env.set_slot.Goals as goal

pub returns-in-Slot : goal.returns-in-Slot
returns-in-Slot c =
    c.put.ensures
    ∙ local_set c.args.at.now.program.now.file _ _ c.args.name.now _ _ _ c.args.at.now.program.now.its_routines (c.resolve.ensures.slot _ c.in-Slot.is)

pub returns-in-Constant : goal.returns-in-Constant
returns-in-Constant c =
    other_set c.args.at.now.program.now.file c.args.at.now.routine c.args.name.now c.resolve.result _ _ c.resolve.ensures.resolution c.in-Constant.is
