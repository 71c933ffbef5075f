use Rattle.pyd_refine.proofs.Ended.{made_as, ended_as}
use Rattle.pyd_refine.proofs.LoopForms.{while_so, for_so, if_over, simple_over}
use Rattle.pyd_refine.proofs.turn.refine_stmt.Goals as goal

pub returns-in-While : goal.returns-in-While
returns-in-While c =
    ended_as _ _ _ _ _ _ _ (while_so c.args.at.now c.args.round.now c.args.control.now c.args.v.now c.args.env.now.items c.args.stmt.now _ _ _ c.in-While.is c.truth.ensures) c.refine_while.ensures

pub returns-in-For : goal.returns-in-For
returns-in-For c =
    ended_as _ _ _ _ _ _ _ (for_so c.args.at.now c.args.round.now c.args.control.now c.args.v.now c.args.env.now.items c.args.stmt.now _ _ _ c.in-For.is) c.refine_for.ensures

pub returns-in-If : goal.returns-in-If
returns-in-If c =
    made_as _ _ _ _ _ _ _ (if_over c.args.at.now c.args.round.now c.args.control.now c.args.v.now c.args.env.now.items c.args.stmt.now _ _ c.in-If.is) c.build_start.ensures

pub returns-in-Expr : goal.returns-in-Expr
returns-in-Expr c =
    made_as _ _ _ _ _ _ _ (simple_over c.args.at.now c.args.round.now c.args.control.now c.args.v.now c.args.env.now.items c.args.stmt.now c.in-Expr.is) c.build_start-in-Expr.ensures
