use Rattle.pyd_refine.proofs.Ended.{made_as, ended_as}
use Rattle.pyd_refine.proofs.CondForms.{arms_stand, cond_true, cond_false, cond_none}
use Rattle.pyd_refine.proofs.cond.refine_cond.Goals as goal

pub test_next-requires : goal.test_next-requires
test_next-requires c =
    arms_stand c.args.at.now c.args.stmt c.passage-here.result c.arms-arms.result.now c.passage-here.ensures c.arms-arms.ensures

pub returns-then-truth : goal.returns-then-truth
returns-then-truth c =
    made_as _ _ _ _ _ _ _
    (cond_true c.args.at.now c.args.stmt c.args.arm c.args.rest.now c.args.env.now.items c.passage-here.result c.arms-arms.result.now
    c.passage-here.ensures c.arms-arms.ensures c.in-Some.field-0.now c.args.truth c.in-Some.ensures c.if-truth.true)
    c.build_start.ensures

pub returns-else-truth : goal.returns-else-truth
returns-else-truth c =
    ended_as _ _ _ _ _ _ _
    (cond_false c.args.at.now c.args.stmt c.args.arm c.args.rest.now c.args.env.now.items c.passage-here.result c.arms-arms.result.now
    c.passage-here.ensures c.arms-arms.ensures c.in-Some.field-0.now c.args.truth c.in-Some.ensures c.if-truth.false)
    c.test_next.ensures

pub returns-in-None : goal.returns-in-None
returns-in-None c =
    made_as _ _ _ _ _ _ _
    (cond_none c.args.at.now c.args.stmt c.args.arm c.args.rest.now c.args.env.now.items c.passage-here.result c.arms-arms.result.now
    c.passage-here.ensures c.arms-arms.ensures c.args.truth c.in-None.ensures)
    c.build_start-in-None.ensures
