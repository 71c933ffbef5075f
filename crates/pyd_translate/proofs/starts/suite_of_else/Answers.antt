use Rattle.std.proofs.Common.{sym, ap, subst, ◌∙◌}
use Rattle.pyd_tree.specs.declared.statement.What.{out-What}
use Rattle.pyd_tree.specs.declared.statement.What.TheOpen.{What-F}
use Rattle.pyd_tree.specs.declared.statement.What.TheVariants as what
use Rattle.pyd_tree.specs.declared.statement.What.TheViews.{out-roll-What}
use Rattle.pyd_scope.specs.Numbering.{table, expression_table, arms_contents, inside}
use Rattle.pyd_translate.specs.Flows.{file_in, passage_of, point_of}
use Rattle.pyd_translate.proofs.Placing.{StandsAt}
use Rattle.pyd_translate.proofs.StartPlaces.{arms_stand}
use Rattle.pyd_translate.proofs.starts.suite_of_else.Goals as goal

pub else_suite-requires : goal.else_suite-requires
else_suite-requires c =
    let level = ap out-What (c.in-If.is ∙ sym (what.rolls-If c.in-If.arms c.in-If.otherwise)) ∙ out-roll-What (What-F.If c.in-If.arms c.in-If.otherwise) in
    subst (λ arms. StandsAt (table (file_in c.args.at.now) c.args.at.now.routine) (expression_table (file_in c.args.at.now) c.args.at.now.routine) (arms_contents arms) (inside (point_of c.passage-here.result.point))) (sym c.as_slice.ensures)
    (arms_stand (file_in c.args.at.now) c.args.at.now.routine c.args.stmt (passage_of c.passage-here.result) c.in-Some.first.now c.in-If.arms c.in-If.otherwise c.passage-here.ensures c.in-Some.ensures level)
