use Rattle.std.proofs.Common.{sym, ◌∙◌}
use Rattle.pyd_meaning.proofs.Sequencing.{outcome-settled}
use Rattle.pyd_eval.proofs.Printing.{line-printed, line-faults}
use Rattle.pyd_eval.proofs.builtins.print.Goals as goal

pub returns-in_ok-put_line-in-Ok : goal.returns-in_ok-put_line-in-Ok
returns-in_ok-put_line-in-Ok c =
    line-printed c.args.args.now c.args.line c.in-Ok.value _ _ (sym c.in-Ok.is ∙ c.in_ok-value.ensures) c.in_ok-put_line-in-Ok.ensures

pub returns-in-Fault : goal.returns-in-Fault
returns-in-Fault c = rw (line-faults c.args.args.now c.args.line c.in-Fault.fault (sym c.in-Fault.is ∙ c.in_ok-value.ensures)) (outcome-settled _ _)
