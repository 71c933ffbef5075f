use Rattle.std.proofs.Common.{◌∙◌, sym, ap, arith}
use Rattle.pyd_lex.specs.Lines.{size}
use Rattle.pyd_lex.proofs.Steps.{bom_size}
use Rattle.pyd_lex.proofs.scan.after_bom.Goals as goal

pub scanned-requires-clause-at : goal.scanned-requires-clause-at
scanned-requires-clause-at c =
    let s = bom_size c.args.text.now (sym c.has_bom.ensures ∙ search c.if-has_bom.true) in
    let b = ap size c.split_at.ensures.back in
    let r = c.requires in
    omega arith
