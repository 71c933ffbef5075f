use Rattle.std.proofs.Common.{◌∙◌}
use Rattle.pyd_translate.specs.Flows.{slots_in}
use Rattle.pyd_translate.proofs.TargetsBound.{members_more, members_done}
use Rattle.pyd_translate.proofs.targets.set_members.Goals as goal

pub loop-name-preserved : goal.loop-name-preserved
loop-name-preserved c =
    members_more (slots_in c.args.at.now) _ _ c.args.id _ _ c.loop-name.name-index c.args.names.now c.name-item.result c.loop-name-test.true c.name-item.is c.set_slot.ensures c.in_ok-port.ensures
    ∙ c.loop-name.invariant

pub returns : goal.returns
returns c =
    members_done (slots_in c.args.at.now) _ _ c.args.id _ c.loop-name.name-index c.args.names.now c.loop-name-test.false c.loop-name.invariant
