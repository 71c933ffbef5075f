use Rattle.pyd_translate.specs.Flows.{point_of}
use Rattle.pyd_refine.proofs.CondForms.{arm_stops, arm_goes}
use Rattle.pyd_refine.proofs.cond.test_arm.Goals as goal

pub returns-in-Some : goal.returns-in-Some
returns-in-Some c =
    arm_goes c.args.at.now c.args.stmt c.args.arm c.args.a.now c.args.rest.now (point_of c.args.point) c.args.env.now.items
    _ c.as_slice.ensures.value _ c.args.draft.now c.build_header.new.draft _ _ _ _ _ c.in-Some.is c.in_ok-frames.ensures
    c.in_ok-test.ensures c.build_last.ensures

pub returns-in-None : goal.returns-in-None
returns-in-None c =
    arm_stops c.args.at.now c.args.stmt c.args.arm c.args.a.now c.args.rest.now (point_of c.args.point) c.args.env.now.items
    _ c.as_slice.ensures.value c.args.draft.now c.build_header.new.draft _ c.in-None.is c.in_ok-test.ensures
