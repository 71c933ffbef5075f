use Rattle.std.proofs.Common.{◌∙◌, subst}
use Rattle.std.proofs.lemmas.Result.{on_err_weaker}
use Rattle.pyd_source.specs.Content.{Added, AddedPrefix}
use Rattle.pyd_source.proofs.Prefixes.{prefix_behind, prefix_front}
use Rattle.pyd_top.proofs.Pieces.{on_err}
use Rattle.pyd_top.proofs.check.put_count.Goals as goal

pub returns-in_err-put_all-clause-err : goal.returns-in_err-put_all-clause-err
returns-in_err-put_all-clause-err g c =
    let number = c.as_bytes.ensures.value ∙ c.format.ensures.text in
    on_err c.from_residual.result
    (prefix_front _ _ _ _ (subst (λ bytes. AddedPrefix (g.K.Sink.held c.args.out.now) bytes (g.K.Sink.held c.put_all.new.sink)) number c.in_err-put_all.ensures.err))

pub returns-clause-err : goal.returns-clause-err
returns-clause-err g c =
    let number = c.as_bytes.ensures.value ∙ c.format.ensures.text in
    on_err_weaker c.put_all-2.result
    (λ what. prefix_behind _ _ _ _ _ (subst (λ bytes. Added (g.K.Sink.held c.args.out.now) bytes (g.K.Sink.held c.put_all.new.sink)) number c.in_ok-put_all.ensures.ok) what)
    c.put_all-2.ensures.err
