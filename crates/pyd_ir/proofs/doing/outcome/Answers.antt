use Rattle.std.proofs.lemmas.Result.{IfOk-weaker}
use Rattle.pyd_ir.proofs.Jobs.{silent-op, silent-read}
use Rattle.pyd_ir.proofs.doing.outcome.Goals as goal

pub returns-in-Op : goal.returns-in-Op
returns-in-Op c =
    IfOk-weaker c.operation.result _ _
    (λ given e. silent-op c.args.job.now c.in-Op.op c.in-Op.args given c.in-Op.is e)
    c.operation.ensures

pub returns-in-Read : goal.returns-in-Read
returns-in-Read c =
    IfOk-weaker c.read.result _ _
    (λ given e. silent-read c.args.job.now c.in-Read.value c.in-Read.kind given c.in-Read.is e)
    c.read.ensures
