use Rattle.std.proofs.Common.{◌≡◌, ap, reverse, true, subst, arith, ◌∙◌, ◌++◌}
use Rattle.pyd_lex.specs.declared.mode.Mode.TheVariants.{Inside}
use Rattle.pyd_lex.specs.Lines.{place_of, token_if}
use Rattle.pyd_lex.specs.Machine.{count, started}
use Rattle.pyd_lex.specs.Scanner.{HasBegun, IsRefused, as_piece, begun}
use Rattle.pyd_lex.proofs.Steps.{take_first, halt_token, map_fault, fault_is, if_err, on_ok}
use Rattle.pyd_lex.proofs.scanner.Scanner.first_token.Goals as goal

pub returns-in-Err : goal.returns-in-Err
returns-in-Err c = record {
  ok = tt;
  fault =
      map_fault c.in-Err.stop _ _
      (λ f r. halt_token c.args.self.now.tokens.items c.args.width c.args.tab (reverse c.args.self.now.widths.items) (place_of (as_piece c.args.piece)) c.args.piece.to c.args.kind f r)
      (subst (λ p. IsRefused (started c.args.tab c.args.width p (begun c.args.self.now)) c.in-Err.stop) c.place.ensures c.in-Err.ensures.fault);
  within = tt;
}

pub returns : goal.returns
returns c =
    let puts = c.push.ensures.puts in
    record {
      ok =
          on_ok c.push.result
          (λ a. take_first c.args.self.now.tokens.items c.args.width c.args.tab (reverse c.args.self.now.widths.items) (place_of (as_piece c.args.piece)) c.args.piece.to c.begin.new.self.tokens.items c.push.new.self.tokens.items (reverse c.begin.new.self.widths.items) (reverse c.push.new.self.widths.items) c.args.kind c.push.new.self.mode
          (subst (λ p. HasBegun c.args.self.now (started c.args.tab c.args.width p (begun c.args.self.now)) c.begin.new.self) c.place.ensures c.in-Ok.ensures.ok)
          (a ∙ ap (λ t. c.begin.new.self.tokens.items ++ token_if true t) c.token.ensures) (ap reverse c.push.ensures.widths) (puts.mode ∙ ap (λ d. Inside d true) c.bracketed.ensures.value)) puts.ok;
      fault = if_err c.push.result _ _ (λ s e. fault_is s _ e) puts.err;
      within = on_ok c.push.result (λ a. let w = c.bracketed.ensures.within in let m : count c.push.new.self.mode ≡ c.bracketed.result = ap count puts.mode in omega arith) puts.ok;
    }
