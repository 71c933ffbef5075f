use Rattle.pyd_runner.proofs.Calls.{is_called}
use Rattle.pyd_runner.proofs.eval_runner.EvalRunner.call.Goals as goal

pub call-requires-clause-function : goal.call-requires-clause-function
call-requires-clause-function c =
    is_called c.args.self.now.program.file c.args.func c.parameter_count.result c.args.args.now c.in_ok-args.args
    c.parameter_count.ensures c.in_ok-args.ensures cc
