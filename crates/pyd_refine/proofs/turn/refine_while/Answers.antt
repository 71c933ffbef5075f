use Rattle.std.proofs.Common.{sym, ap}
use Rattle.pyd_refine.specs.Drafts.{while_in}
use Rattle.pyd_refine.proofs.Ended.{made_as, ended_as}
use Rattle.pyd_refine.proofs.LoopForms.{while_over}
use Rattle.pyd_refine.proofs.turn.refine_while.Goals as goal

pub returns-then-truth : goal.returns-then-truth
returns-then-truth c =
    ended_as _ _ _ _ _ _ _
    (ap (λ b. while_in c.args.at.now c.args.round.now c.args.line b c.args.env.now.items) (sym c.if-truth.true)) c.while_turn.ensures

pub returns-else-truth : goal.returns-else-truth
returns-else-truth c =
    made_as _ _ _ _ _ _ _ (while_over c.args.at.now c.args.round.now c.args.line c.args.env.now.items c.args.truth c.if-truth.false) c.build_start.ensures
