use Rattle.std.proofs.Common.{◌∙◌, subst}
use Rattle.pyd_source.specs.Content.{AddedPrefix}
use Rattle.pyd_top.proofs.Gathering.{gathers_put, gathers_wait}
use Rattle.pyd_top.proofs.Pieces.{on_err}
use Rattle.pyd_top.proofs.lines.add_line.Goals as goal

pub returns-in_err-put_all-clause-err : goal.returns-in_err-put_all-clause-err
returns-in_err-put_all-clause-err g c =
    on_err c.from_residual-in_err-put_all.result
    (subst (λ bytes. AddedPrefix (g.K.Sink.held c.args.out.now) bytes (g.K.Sink.held c.put_all.new.sink)) (c.deref.ensures.value ∙ c.in_ok-append_line.ensures)
    c.in_err-put_all.ensures.err)

pub returns-in_ok-put_all-clause-ok : goal.returns-in_ok-put_all-clause-ok
returns-in_ok-put_all-clause-ok g c =
    rw c.clear.ensures.items (gathers_put _ _ c.deref.result.now _ (c.deref.ensures.value ∙ c.in_ok-append_line.ensures) c.in_ok-put_all.ensures.ok)

pub returns-else-len-ge-GATHERED-clause-ok : goal.returns-else-len-ge-GATHERED-clause-ok
returns-else-len-ge-GATHERED-clause-ok g c = gathers_wait _ _ _ c.in_ok-append_line.ensures
