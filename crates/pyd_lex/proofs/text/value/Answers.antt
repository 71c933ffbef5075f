use Rattle.std.proofs.Common.{◌<◌, ◌∙◌, ap, arith, length, encode_utf8_all, false-eqb}
use Rattle.pyd_lex.proofs.Values.{value_at}
use Rattle.pyd_lex.proofs.Pieces.{at_default}
use Rattle.pyd_lex.proofs.Steps.{if_ok}
use Rattle.pyd_lex.proofs.text.value.Goals as goal

pub returns : goal.returns
returns c =
    let l : 0 < length c.args.text.now = omega (arith, false-eqb (length c.args.text.now) 0 c.if-is_empty.ensures) in
    let d = at_default c.args.text.now 0 c.index-text-0.result l c.index-text-0.is in
    let v = value_at c.args.text.now c.split_at.result.1.now c.split_at-2.result.1.now c.index-text-0.result c.more.result c.opening-quotes.result l d c.split_at.ensures.back c.opening-quotes.ensures c.more.ensures.value c.split_at-2.ensures.back in
    if_ok c.written.result _ _ (λ s h. h ∙ ap encode_utf8_all v) c.written.ensures
