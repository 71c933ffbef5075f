use Rattle.std.proofs.Common.{◌∙◌}
use Rattle.pyd_scope.specs.Numbering.{table, expression_table}
use Rattle.pyd_scope.specs.Placed.{entry_of}
use Rattle.pyd_translate.specs.Flows.{file_in, point_of}
use Rattle.pyd_translate.proofs.Walked.{statement_found, statements_stand, statements_past, statements_done}
use Rattle.pyd_translate.proofs.setting.past_statements.Goals as goal

pub loop-preserved : goal.loop-preserved
loop-preserved c =
    let entries = table (file_in c.args.at.now) c.args.at.now.routine in
    let all = expression_table (file_in c.args.at.now) c.args.at.now.routine in
    let here = c.loop.invariant in (
      statements_stand entries all c.args.stmts.now c.loop.index c.loop-test.true (point_of c.loop.behind) here.0 (entry_of c.in-Some.place) _ c.in-Some.ensures.entry c.in-Some.ensures.behind,
      statements_past entries all c.args.stmts.now c.loop.index c.loop-test.true (point_of c.loop.behind) here.0 (entry_of c.in-Some.place) _ c.in-Some.ensures.entry c.in-Some.ensures.behind ∙ here.1,
    )

pub returns-in-None : goal.returns-in-None
returns-in-None c =
    absurd (statement_found (table (file_in c.args.at.now) c.args.at.now.routine) (expression_table (file_in c.args.at.now) c.args.at.now.routine) c.args.stmts.now c.loop.index c.loop-test.true (point_of c.loop.behind) c.loop.invariant.0 c.in-None.ensures.entry)

pub returns : goal.returns
returns c = statements_done c.args.stmts.now c.loop.index (point_of c.loop.behind) _ c.loop-test.false c.loop.invariant.1
