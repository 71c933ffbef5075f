use Rattle.std.proofs.Common.{◌∙◌, sym, ap, drop}
use Rattle.pyd_lex.specs.Numbers.{bounded}
use Rattle.pyd_lex.proofs.Amounts.{amount_first, wide_amount}
use Rattle.pyd_lex.proofs.number.amount.Goals as goal

pub returns-in-None : goal.returns-in-None
returns-in-None c =
    let first = amount_first c.args.base c.loop-text.n c.c-item.result c.loop-text.text.now c.in-len1-up.len_at_least c.c-item.is c.if-c-ne95.true in
    sym (wide_amount c.args.base _ (drop 1 c.loop-text.text.now) c.requires (sym c.longer.ensures ∙ c.in-None.is)) ∙ ap bounded (sym first ∙ c.loop-text.invariant.0)
