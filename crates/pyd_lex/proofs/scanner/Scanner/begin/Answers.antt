use Rattle.std.proofs.Common.{◌≤◌, reverse, arith, refl}
use Rattle.pyd_lex.specs.Lines.{top}
use Rattle.pyd_lex.proofs.Steps.{no_tab_indent, no_tab_lower, no_tab_refuse, tab_refuses, fault_is, on_ok, on_ok_both, if_err, map_fault}
use Rattle.pyd_lex.proofs.scanner.Scanner.begin.Goals as goal

pub returns-then-tab : goal.returns-then-tab
returns-then-tab c = record {
  ok = tt;
  fault = tab_refuses c.args.tab c.args.width c.args.place (reverse c.args.self.now.widths.items) c.if-tab.true;
  mode = refl;
}

pub returns-then-top-width : goal.returns-then-top-width
returns-then-top-width c =
    let t = c.top.ensures in
    let puts = c.indent.ensures.puts in
    record {
      ok = on_ok_both c.indent.result (λ a w. no_tab_indent c.args.tab c.args.width c.args.place c.args.self.now.tokens.items c.indent.new.self.tokens.items c.args.self.now.widths.items c.indent.new.self.widths.items c.if-tab.false (omega arith) a w) puts.ok c.indent.ensures.widths;
      fault = if_err c.indent.result _ _ (λ s e. fault_is s _ e) puts.err;
      mode = puts.mode;
    }

pub returns : goal.returns
returns c =
    let t = c.top.ensures in
    let l : c.args.width ≤ top (reverse c.args.self.now.widths.items) = omega arith in
    let low = c.lower.ensures in
    record {
      ok = on_ok c.lower.result (λ b. no_tab_lower c.args.tab c.args.width c.args.place c.args.self.now.tokens.items c.lower.new.self.tokens.items (reverse c.args.self.now.widths.items) (reverse c.lower.new.self.widths.items) c.if-tab.false l b) low.ok;
      fault = if_err c.lower.result _ _ (λ s h. map_fault s _ _ (λ f r. no_tab_refuse c.args.tab c.args.width c.args.place (reverse c.args.self.now.widths.items) f c.if-tab.false l r) h) low.fault;
      mode = low.mode;
    }
