use Rattle.pyd_eval.proofs.Program.{function-below}
use Rattle.pyd_eval.proofs.activation.Activation.function.Goals as goal

pub returns : goal.returns
returns c =
    let on = c.args.self.now in
    function-below on.program.now.file c.args.routine on.functions.now c.nth.result c.if-routine-eq0.false on.its_functions c.nth.ensures
