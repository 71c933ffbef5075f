use Rattle.std.proofs.Common.{subst}
use Rattle.pyd_eval.specs.Whole.{IsCalled}
use Rattle.pyd_top_tests.proofs.calls.goes.Goals as goal

pub call-requires-clause-function : goal.call-requires-clause-function
call-requires-clause-function c =
    subst (IsCalled c.args.program.now.file c.args.row.now.number) c.len.ensures
    (c.in_ok-is_called.ensures c.if-not-branch.false)
