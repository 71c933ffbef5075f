use Rattle.std.proofs.Common.{◌∙◌}
use Rattle.pyd_scope.specs.Numbering.{table, expression_table}
use Rattle.pyd_translate.specs.Flows.{file_in, point_of}
use Rattle.pyd_translate.proofs.Walked.{suite_stands, arms_stand, arms_past, arms_done}
use Rattle.pyd_translate.proofs.setting.past_arms.Goals as goal

pub past_statements-behind-requires : goal.past_statements-behind-requires
past_statements-behind-requires c =
    suite_stands (table (file_in c.args.at.now) c.args.at.now.routine) (expression_table (file_in c.args.at.now) c.args.at.now.routine) c.args.arms.now c.loop-arm.arm-index c.arm-item.result c.loop-arm-test.true c.arm-item.is (point_of c.loop-arm.behind) _ _ c.as_slice.ensures c.in_ok-suite.ensures c.loop-arm.invariant.0

pub loop-arm-preserved : goal.loop-arm-preserved
loop-arm-preserved c =
    let entries = table (file_in c.args.at.now) c.args.at.now.routine in
    let all = expression_table (file_in c.args.at.now) c.args.at.now.routine in
    let here = c.loop-arm.invariant in (
      arms_stand entries all c.args.arms.now c.loop-arm.arm-index c.arm-item.result c.loop-arm-test.true c.arm-item.is (point_of c.loop-arm.behind) _ _ _ c.as_slice.ensures c.in_ok-suite.ensures c.past_statements-behind.ensures here.0,
      arms_past entries all c.args.arms.now c.loop-arm.arm-index c.arm-item.result c.loop-arm-test.true c.arm-item.is (point_of c.loop-arm.behind) _ _ _ c.as_slice.ensures c.in_ok-suite.ensures c.past_statements-behind.ensures ∙ here.1,
    )

pub returns : goal.returns
returns c = arms_done c.args.arms.now c.loop-arm.arm-index (point_of c.loop-arm.behind) _ c.loop-arm-test.false c.loop-arm.invariant.1
