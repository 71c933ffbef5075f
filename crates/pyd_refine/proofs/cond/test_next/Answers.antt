use Rattle.std.proofs.Common.{◌≡◌, suc, take, slice_get, Some, None, refl, ap, ◌∙◌, arith}
use Rattle.pyd_scope.specs.Numbering.{past, arms_contents, inside as inside_point}
use Rattle.pyd_translate.specs.Flows.{point_of}
use Rattle.pyd_refine.specs.Composites.{arm_point}
use Rattle.pyd_refine.proofs.Ended.{made_as, ended_as}
use Rattle.pyd_refine.proofs.CondForms.{before_stand, tested_so}
use Rattle.pyd_refine.proofs.cond.test_next.Goals as goal

pub past_arms-requires : goal.past_arms-requires
past_arms-requires c =
    before_stand c.args.at.now c.args.arms.now c.in-Some.next (inside_point (point_of c.args.point)) _ c.in_ok-inside-in-Some-arm_at.ensures c.requires

pub returns-in_ok-point-in-Some-arm_at : goal.returns-in_ok-point-in-Some-arm_at
returns-in_ok-point-in-Some-arm_at c =
    let n : c.in-Some.next ≡ suc c.args.arm = omega (arith, c.in-Some.ensures) in
    ended_as _ _ _ _ _ _ _
    (tested_so c.args.at.now c.args.stmt c.in-Some.next (suc c.args.arm) (Some c.in-Some-arm_at.a.now)
    (slice_get c.args.arms.now (suc c.args.arm)) c.args.rest.now (point_of c.in_ok-point-in-Some-arm_at.point)
    (arm_point c.args.arms.now (suc c.args.arm) (point_of c.args.point)) c.args.env.now.items
    n (c.in-Some-arm_at.ensures ∙ ap (slice_get c.args.arms.now) n)
    (c.in_ok-point-in-Some-arm_at.ensures
    ∙ (λ i. past (arms_contents (take (n i) c.args.arms.now)) (c.in_ok-inside-in-Some-arm_at.ensures i))))
    c.test_arm.ensures

pub returns-in-None : goal.returns-in-None
returns-in-None c =
    let n : c.in-Some.next ≡ suc c.args.arm = omega (arith, c.in-Some.ensures) in
    made_as _ _ _ _ _ _ _
    (tested_so c.args.at.now c.args.stmt (suc c.args.arm) (suc c.args.arm) None
    (slice_get c.args.arms.now (suc c.args.arm)) c.args.rest.now
    (arm_point c.args.arms.now (suc c.args.arm) (point_of c.args.point))
    (arm_point c.args.arms.now (suc c.args.arm) (point_of c.args.point)) c.args.env.now.items
    refl (c.in-None.ensures ∙ ap (slice_get c.args.arms.now) n) refl)
    c.build_start.ensures
