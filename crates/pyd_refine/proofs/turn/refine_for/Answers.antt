use Rattle.std.proofs.Common.{sym, ap, ◌∙◌}
use Rattle.pyd_meaning.specs.Loops.{items_over}
use Rattle.pyd_refine.specs.Found.{seen, at_turn}
use Rattle.pyd_refine.proofs.Ended.{made_as}
use Rattle.pyd_refine.proofs.LoopForms.{for_end}
use Rattle.pyd_refine.proofs.turn.refine_for.Goals as goal

pub returns-in-End : goal.returns-in-End
returns-in-End c =
    made_as _ _ _ _ _ _ _
    (for_end c.args.at.now c.args.round.now c.args.line c.args.env.now.items c.args.targets.now c.args.control.now _
    (ap seen (sym c.in-End.is) ∙ c.in_ok-item.ensures
    ∙ ap (λ b. at_turn c.args.round.now.turns (items_over b c.args.v.now)) (c.calls_range.ensures c.args.round.now.limits)))
    c.build_start.ensures
