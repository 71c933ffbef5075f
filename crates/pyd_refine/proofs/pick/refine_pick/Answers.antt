use Rattle.pyd_refine.proofs.PickForms.{pick_ends}
use Rattle.pyd_refine.proofs.pick.refine_pick.Goals as goal

pub returns : goal.returns
returns c =
    pick_ends c.args.draft.now c.build_side.new.draft _ _ c.args.truth c.args.yes.now c.args.no.now _ _ _ _ _
    c.context.ensures.file c.chosen-side.ensures c.context.ensures.context c.or_unbound.ensures c.in_ok-got.ensures
