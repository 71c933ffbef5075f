use Rattle.pyd_translate.proofs.BindingFlows.{augmented_binds, augmented_stopped, binds_stopped}
use Rattle.pyd_translate.proofs.assignments.build_augmented.Goals as goal

pub returns-in-Some : goal.returns-in-Some
returns-in-Some c =
    augmented_binds c.args.at.now c.args.name.now c.args.op c.args.e.now _ _ c.args.env.now.items _ _
    (rw (c.in-Some.is, c.as_slice.ensures.value) at c.in_ok-value.ensures) c.set_slot.ensures

pub returns-in-None : goal.returns-in-None
returns-in-None c =
    binds_stopped _ _ _ _ (augmented_stopped c.args.at.now c.args.name.now c.args.op c.args.e.now _ _ c.args.env.now.items
    (rw (c.in-None.is, c.as_slice.ensures.value) at c.in_ok-value.ensures))
