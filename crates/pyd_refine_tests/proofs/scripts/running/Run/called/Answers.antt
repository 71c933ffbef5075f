use Rattle.std.proofs.Common.{subst}
use Rattle.pyd_eval.specs.Whole.{IsCalled}
use Rattle.pyd_refine_tests.proofs.scripts.running.Run.called.Goals as goal

pub call-requires-clause-function : goal.call-requires-clause-function
call-requires-clause-function c =
    subst (IsCalled c.args.self.now.program.now.file c.args.func) c.len.ensures
    (c.in_ok-is_called.ensures c.if-not-branch.false)
