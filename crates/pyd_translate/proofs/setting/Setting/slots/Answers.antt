use Rattle.std.proofs.Common.{◌∙◌}
use Rattle.pyd_translate.proofs.Settings.{slots_there, slots_missing}
use Rattle.pyd_translate.proofs.setting.Setting.slots.Goals as goal

pub returns-in-Some : goal.returns-in-Some
returns-in-Some c =
    c.as_slice.ensures
    ∙ slots_there c.args.self.now.program.now.file _ _ c.args.self.now.program.now.its_routines _ c.in-Some.ensures.item

pub returns-in-None : goal.returns-in-None
returns-in-None c =
    slots_missing c.args.self.now.program.now.file _ _ c.args.self.now.program.now.its_routines c.in-None.ensures.item
