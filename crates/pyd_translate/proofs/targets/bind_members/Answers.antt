use Rattle.std.proofs.Common.{ap}
use Rattle.pyd_translate.specs.Flows.{slots_in, context_in}
use Rattle.pyd_translate.proofs.TargetsBound.{members_bound}
use Rattle.pyd_translate.proofs.targets.bind_members.Goals as goal

pub returns : goal.returns
returns c =
    members_bound (slots_in c.args.at.now) (context_in c.args.at.now c.args.line c.args.env.now.items) c.args.a c.args.draft.now c.unpack.new.draft _ _ c.args.names.now _
    (ap (context_in c.args.at.now c.args.line) c.as_slice.ensures.value) c.in_ok-id.ensures c.in_ok-set_members.ensures
