use Rattle.pyd_names.specs.Binding.{function}
use Rattle.pyd_translate.specs.Flows.{file_in}
use Rattle.pyd_refine.proofs.Ended.{ended_as}
use Rattle.pyd_refine.proofs.EnterForms.{found, one_deeper}
use Rattle.pyd_refine.proofs.enter.refine_enter.Goals as goal

pub returns : goal.returns
returns c =
    let at = c.args.at.now in
    let is = found at c.args.limits c.args.line c.args.func c.args.args.now (function (file_in at) c.args.func)
    c.in-Some.routine.now c.in-Some.ensures c.if-args-routine.false in
    ended_as _ _ _ _ _ _ _
    (one_deeper at c.args.limits c.args.line c.args.func c.args.args.now is.0 at.program.now.accepted is.1 is.2 c.if-at-limits.false)
    c.enter.ensures
