use Rattle.std.proofs.Common.{◌∙◌, subst}
use Rattle.std.proofs.lemmas.Result.{on_err_weaker}
use Rattle.pyd_source.specs.Content.{Added, AddedPrefix}
use Rattle.pyd_source.proofs.Prefixes.{prefix_behind, prefix_front}
use Rattle.pyd_top.proofs.Pieces.{on_err}
use Rattle.pyd_top.proofs.report.put_placed.Goals as goal

pub returns-in_err-put_all-clause-err : goal.returns-in_err-put_all-clause-err
returns-in_err-put_all-clause-err g c =
    on_err c.from_residual.result (prefix_front _ _ _ _ c.in_err-put_all.ensures.err)

pub returns-in_err-put_all-2-clause-err : goal.returns-in_err-put_all-2-clause-err
returns-in_err-put_all-2-clause-err g c =
    on_err c.from_residual-in_err-put_all-2.result (prefix_behind _ _ _ _ _ c.in_ok-put_all.ensures.ok (prefix_front _ _ _ _ c.in_err-put_all-2.ensures.err))

pub returns-in_err-put_all-3-clause-err : goal.returns-in_err-put_all-3-clause-err
returns-in_err-put_all-3-clause-err g c =
    let number = c.as_bytes.ensures.value ∙ c.format.ensures.text in
    on_err c.from_residual-in_err-put_all-3.result
    (prefix_behind _ _ _ _ _ c.in_ok-put_all.ensures.ok
    (prefix_behind _ _ _ _ _ c.in_ok-put_all-2.ensures.ok
    (prefix_front _ _ _ _ (subst (λ bytes. AddedPrefix (g.E.Sink.held c.put_all-2.new.sink) bytes (g.E.Sink.held c.put_all-3.new.sink)) number c.in_err-put_all-3.ensures.err))))

pub returns-clause-err : goal.returns-clause-err
returns-clause-err g c =
    let number = c.as_bytes.ensures.value ∙ c.format.ensures.text in
    on_err_weaker c.put_all-4.result
    (λ newline. prefix_behind _ _ _ _ _ c.in_ok-put_all.ensures.ok
    (prefix_behind _ _ _ _ _ c.in_ok-put_all-2.ensures.ok
    (prefix_behind _ _ _ _ _ (subst (λ bytes. Added (g.E.Sink.held c.put_all-2.new.sink) bytes (g.E.Sink.held c.put_all-3.new.sink)) number c.in_ok-put_all-3.ensures.ok) newline)))
    c.put_all-4.ensures.err
