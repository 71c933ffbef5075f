use Rattle.std.proofs.Common.{◌∙◌, sym, ap, length}
use Rattle.pyd_lex.proofs.Steps.{top_none, top_slice}
use Rattle.pyd_lex.proofs.scanner.Scanner.top.Goals as goal

pub returns-then-count-eq0 : goal.returns-then-count-eq0
returns-then-count-eq0 c = top_none c.args.self.now.widths.items (ap length (sym c.as_slice-widths.ensures.value) ∙ c.if-count-eq0.true)

pub returns-else-count-eq0 : goal.returns-else-count-eq0
returns-else-count-eq0 c = top_slice c.args.self.now.widths.items c.as_slice-widths.result.now c.as_slice-widths.ensures.value c.if-count-eq0.false
