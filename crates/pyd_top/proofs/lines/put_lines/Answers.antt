use Rattle.pyd_top.proofs.Gathering.{gathered_put, gathered_prefix}
use Rattle.pyd_top.proofs.Pieces.{on_err}
use Rattle.pyd_top.proofs.lines.put_lines.Goals as goal

pub returns-in_err-put_all-clause-err : goal.returns-in_err-put_all-clause-err
returns-in_err-put_all-clause-err g c =
    on_err c.from_residual-in_err-put_all.result
    (gathered_prefix _ _ _ c.gather.new.waiting.items _ c.in_ok-gather.ensures.ok (rw c.deref.ensures.value at c.in_err-put_all.ensures.err))

pub returns-clause-ok : goal.returns-clause-ok
returns-clause-ok g c =
    gathered_put _ _ _ c.gather.new.waiting.items _ c.in_ok-gather.ensures.ok (rw c.deref.ensures.value at c.in_ok-put_all.ensures.ok)
