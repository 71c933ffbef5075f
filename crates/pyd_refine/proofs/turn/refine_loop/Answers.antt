use Rattle.pyd_refine.proofs.Ended.{made_as, ended_as}
use Rattle.pyd_refine.proofs.LoopForms.{loop_stmt, loop_none}
use Rattle.pyd_refine.proofs.turn.refine_loop.Goals as goal

pub returns-in-Some : goal.returns-in-Some
returns-in-Some c =
    ended_as _ _ _ _ _ _ _
    (loop_stmt c.args.at.now c.args.round.now c.args.control.now c.args.v.now c.args.env.now.items c.passage-here.result _ c.passage-here.ensures c.in-Some.ensures)
    c.refine_stmt.ensures

pub returns-in-None : goal.returns-in-None
returns-in-None c =
    made_as _ _ _ _ _ _ _
    (loop_none c.args.at.now c.args.round.now c.args.control.now c.args.v.now c.args.env.now.items c.passage-here.result c.passage-here.ensures c.in-None.ensures)
    c.build_start.ensures
