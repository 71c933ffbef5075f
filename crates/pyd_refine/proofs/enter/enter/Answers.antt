use Rattle.std.proofs.Common.{arith}
use Rattle.pyd_refine.proofs.EnterForms.{body_ends, filled_up}
use Rattle.pyd_refine.proofs.enter.enter.Goals as goal

pub returns : goal.returns
returns c =
    body_ends c.build_start.result c.args.at.now c.args.draft.now c.build_start.new.draft c.args.func _ _ _
    c.build_start.new.env.items (omega arith)
    (filled_up _ _ _ _ _ c.in_ok-fill.ensures c.in_ok-env.ensures c.slots.ensures) c.build_start.ensures
