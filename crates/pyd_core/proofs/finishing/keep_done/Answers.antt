use Rattle.std.proofs.Common.{sym}
use Rattle.pyd_core.proofs.Finishes.{effect_kept, on_ok, outcome_kept}
use Rattle.pyd_core.proofs.finishing.keep_done.Goals as goal

pub returns-in_ok-ran-clause-ok : goal.returns-in_ok-ran-clause-ok
returns-in_ok-ran-clause-ok c =
    effect_kept c.args.desk.now c.keep_run.new.self c.args.node c.args.machine
    c.args.done.now.job.task c.args.done.now.ran c.in_ok-ran.ran (sym c.if-is_run.ensures)
    c.in_ok-ran.ensures c.keep_run.ensures.becomes

pub returns-in_ok-outcome-clause-ok : goal.returns-in_ok-outcome-clause-ok
returns-in_ok-outcome-clause-ok c =
    on_ok c.keep_record.result _ _
    (outcome_kept c.args.desk.now c.keep_record.new.self c.args.node c.args.machine
    c.args.done.now.job.task c.args.done.now.ran c.in_ok-outcome.outcome (sym c.if-is_run.ensures)
    c.in_ok-outcome.ensures)
    c.keep_record.ensures.ok
