use Rattle.std.proofs.Common.{◌≡◌, ap, reverse, arith, ◌∙◌, ◌++◌}
use Rattle.pyd_lex.specs.declared.mode.Mode.TheVariants.{Inside}
use Rattle.pyd_lex.specs.Lines.{place_of, token_if}
use Rattle.pyd_lex.specs.Machine.{count}
use Rattle.pyd_lex.specs.Scanner.{as_piece}
use Rattle.pyd_lex.proofs.Steps.{take_inside_as, fault_is, if_err, on_ok}
use Rattle.pyd_lex.proofs.scanner.Scanner.inner_token.Goals as goal

pub returns : goal.returns
returns c =
    let puts = c.push_if.ensures.puts in
    record {
      ok =
          on_ok c.push_if.result
          (λ a. take_inside_as c.args.self.now.tokens.items c.args.depth c.args.has_tokens (reverse c.args.self.now.widths.items) (place_of (as_piece c.args.piece)) c.args.piece.to c.push_if.new.self.tokens.items c.args.kind (reverse c.push_if.new.self.widths.items) c.push_if.new.self.mode
          (a ∙ ap (λ t. c.args.self.now.tokens.items ++ token_if c.args.has_tokens t) c.token.ensures) (ap reverse c.push_if.ensures.widths) (puts.mode ∙ ap (λ d. Inside d c.args.has_tokens) c.bracketed.ensures.value)) puts.ok;
      fault = if_err c.push_if.result _ _ (λ s e. fault_is s _ e) puts.err;
      within = on_ok c.push_if.result (λ a. let w = c.bracketed.ensures.within in let m : count c.push_if.new.self.mode ≡ c.bracketed.result = ap count puts.mode in omega arith) puts.ok;
    }
