use Rattle.std.proofs.Common.{◌∙◌, sym, ap, None, Some, ◌+◌, drop}
use Rattle.pyd_lex.proofs.Strings.{string_whole}
use Rattle.pyd_lex.proofs.string.string.Goals as goal

pub returns-in-Ok-clause-ok : goal.returns-in-Ok-clause-ok
returns-in-Ok-clause-ok c =
    string_whole c.args.quote c.args.tail.now c.split_at.result.1.now c.opening-quotes.result c.more-in-Ok.result c.in-Ok.n None c.opening-quotes.ensures c.more-in-Ok.ensures.value (c.split_at.ensures.back ∙ ap (λ i. drop i c.args.tail.now) (c.more.ensures.value ∙ sym c.more-in-Ok.ensures.value)) c.in-Ok.ensures.ok

pub returns-in-Err-clause-err : goal.returns-in-Err-clause-err
returns-in-Err-clause-err c =
    let broken = c.in-Err.ensures.err in
    let r = string_whole c.args.quote c.args.tail.now c.split_at.result.1.now c.opening-quotes.result c.more.result broken.0 (Some c.in-Err.flaw) c.opening-quotes.ensures c.more.ensures.value c.split_at.ensures.back broken.1 in
    (c.more.result + broken.0, r.0, r.1)
