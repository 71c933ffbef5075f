use Rattle.std.proofs.Common.{◌∙◌, sym, ap, reverse, arith}
use Rattle.pyd_lex.specs.Lines.{ahead, lowered}
use Rattle.pyd_lex.specs.declared.fault.LexFault.TheVariants.{BadDedent}
use Rattle.pyd_lex.proofs.Steps.{lower_step, lowered_end, lowered_bad, ahead_err, fault_is}
use Rattle.pyd_lex.proofs.scanner.Scanner.lower.Goals as goal

pub loop-self-preserved : goal.loop-self-preserved
loop-self-preserved c =
    let t = c.top.ensures in
    let puts = c.in-Ok.ensures.puts in
    record {
      same = λ next. c.loop-self.invariant.same next ∙ lower_step c.args.width c.args.place c.loop-self.self.tokens.items c.dedent.new.self.tokens.items (reverse c.loop-self.self.widths.items) (reverse c.dedent.new.self.widths.items) c.in-Ok.ensures.widths (omega arith) puts.ok next;
      mode = puts.mode ∙ c.loop-self.invariant.mode;
    }

pub returns-in-Err : goal.returns-in-Err
returns-in-Err c =
    let puts = c.in-Err.ensures.puts in
    record {
      ok = tt;
      fault = fault_is c.in-Err.stop _ puts.err;
      mode = puts.mode ∙ c.loop-self.invariant.mode;
    }

pub returns-then-width-top : goal.returns-then-width-top
returns-then-width-top c = record {
  ok = λ next.
      c.loop-self.invariant.same next ∙ ap (ahead c.loop-self.self.tokens.items) (lowered_end c.args.width c.args.place (reverse c.loop-self.self.widths.items) next (c.if-width-top.true ∙ c.top-2.ensures));
  fault = tt;
  mode = c.loop-self.invariant.mode;
}

pub returns : goal.returns
returns c =
    let t = c.top.ensures in
    record {
      ok = tt;
      fault = λ next.
          let bad = lowered_bad c.args.width c.args.place (reverse c.loop-self.self.widths.items) next (λ e. c.if-width-top.false (e ∙ sym c.top-2.ensures)) (omega arith) in
          ahead_err c.args.self.now.tokens.items (lowered c.args.width c.args.place (reverse c.args.self.now.widths.items) next) (BadDedent c.args.place.line) (c.loop-self.invariant.same next ∙ ap (ahead c.loop-self.self.tokens.items) bad);
      mode = c.loop-self.invariant.mode;
    }
