use Rattle.std.proofs.Common.{◌∙◌, sym, ap, reverse, Ok}
use Rattle.pyd_lex.specs.Lines.{ahead, closing}
use Rattle.pyd_lex.proofs.Steps.{run_end}
use Rattle.pyd_lex.proofs.scanner.Scanner.finish.Goals as goal

pub returns-clause-ok : goal.returns-clause-ok
returns-clause-ok c =
    run_end c.args.end c.args.self.mode (reverse c.args.self.widths.items) c.args.self.tokens.items c.end_line.new.self.tokens.items c.close.new.self.tokens.items (c.in_ok-end_line.ensures.puts.ok)
    (ap (λ ws. ahead c.end_line.new.self.tokens.items (Ok (closing c.args.end (reverse ws)))) (sym c.in_ok-end_line.ensures.widths) ∙ c.in_ok-close.ensures.ok)
