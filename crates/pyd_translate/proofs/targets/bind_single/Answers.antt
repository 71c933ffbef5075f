use Rattle.std.proofs.Common.{ap, ◌∙◌}
use Rattle.pyd_translate.specs.Flows.{slots_in, context_in}
use Rattle.pyd_translate.proofs.TargetsBound.{single_bound, none_bound}
use Rattle.pyd_translate.proofs.targets.bind_single.Goals as goal

pub returns-then-names-eq1 : goal.returns-then-names-eq1
returns-then-names-eq1 c =
    single_bound (slots_in c.args.at.now) (context_in c.args.at.now c.args.line c.args.env.now.items) c.args.a c.args.draft.now c.args.names.now _ _ c.if-names-eq1.true c.index-names-0.is c.set_slot.ensures

pub returns-in_ok-stop_by : goal.returns-in_ok-stop_by
returns-in_ok-stop_by c =
    none_bound (slots_in c.args.at.now) (context_in c.args.at.now c.args.line c.args.env.now.items) c.args.a c.args.draft.now c.stop_by.new.draft _ c.args.names.now
    (c.context.ensures.context ∙ ap (context_in c.args.at.now c.args.line) c.as_slice.ensures.value) c.if-names-eq1.false c.in_ok-stop_by.ensures
