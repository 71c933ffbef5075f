use Rattle.pyd_runner.proofs.Calls.{ends}
use Rattle.pyd_runner.proofs.eval_runner.EvalRunner.ended.Goals as goal

pub returns : goal.returns
returns c = ends c.args.fault c.new.result c.new.ensures
