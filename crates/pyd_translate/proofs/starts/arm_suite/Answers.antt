use Rattle.pyd_scope.specs.Numbering.{table, expression_table, inside}
use Rattle.pyd_translate.specs.Flows.{file_in, point_of}
use Rattle.pyd_translate.proofs.StartPlaces.{arms_before, arm_found, arm_missing, there_at, none_at}
use Rattle.pyd_translate.proofs.starts.arm_suite.Goals as goal

pub past_arms-requires : goal.past_arms-requires
past_arms-requires c =
    arms_before (table (file_in c.args.at.now) c.args.at.now.routine) (expression_table (file_in c.args.at.now) c.args.at.now.routine) c.args.arms.now _ c.args.arm (inside (point_of c.args.point)) (point_of c.in_ok-inside-in-Some.field-0) c.before-in-Some.ensures c.in_ok-inside-in-Some.ensures c.requires

pub returns-in_ok-past_expression-in-Some : goal.returns-in_ok-past_expression-in-Some
returns-in_ok-past_expression-in-Some c =
    arm_found c.args.arms.now c.args.arm (inside (point_of c.args.point)) c.in-Some.chosen.now _ _ _ _ _ (there_at c.args.arms.now c.args.arm c.in-Some.chosen.now c.in-Some.ensures.lookup.3.0 c.in-Some.ensures.lookup.1) c.before-in-Some.ensures c.in_ok-inside-in-Some.ensures c.in_ok-begin-in-Some.ensures c.in_ok-past_expression-in-Some.ensures c.suite.ensures

pub returns-in-None : goal.returns-in-None
returns-in-None c =
    arm_missing c.args.arms.now c.args.arm (inside (point_of c.args.point)) _ (none_at c.args.arms.now c.args.arm c.in-None.ensures.lookup.3) c.no_passage.ensures
