use Rattle.std.proofs.Common.{◌≡◌, ap, reverse, arith, subst, sym, ◌∙◌, ◌++◌}
use Rattle.pyd_lex.specs.declared.mode.Mode.TheVariants.{Inside}
use Rattle.pyd_lex.specs.Lines.{place_of, token_if}
use Rattle.pyd_lex.specs.Machine.{count}
use Rattle.pyd_lex.specs.Steps.{Takes, good}
use Rattle.pyd_lex.specs.Scanner.{as_piece}
use Rattle.pyd_lex.proofs.Steps.{take_joined_as, take_end_as, fault_is, if_err, on_ok}
use Rattle.pyd_lex.proofs.scanner.Scanner.line_break.Goals as goal

pub returns-then-depth-ne0 : goal.returns-then-depth-ne0
returns-then-depth-ne0 c = record {
  ok =
      subst (λ s. Takes c.args.self.now.tokens.items (Inside c.args.depth c.args.has_tokens) (reverse c.args.self.now.widths.items) (good s (place_of (as_piece c.args.piece)) c.args.piece.to) c.args.self.now.tokens.items c.args.self.now.mode (reverse c.args.self.now.widths.items)) (sym c.requires.shape)
      (take_joined_as c.args.self.now.tokens.items c.args.depth c.args.has_tokens (reverse c.args.self.now.widths.items) (place_of (as_piece c.args.piece)) c.args.piece.to c.args.self.now.mode c.requires.mode c.if-depth-ne0.true);
  fault = tt;
  within = let m = ap count c.requires.mode in omega arith;
}

pub returns : goal.returns
returns c =
    let puts = c.push_if.ensures.puts in
    record {
      ok =
          on_ok c.push_if.result
          (λ a. subst (λ s. Takes c.args.self.now.tokens.items (Inside c.args.depth c.args.has_tokens) (reverse c.args.self.now.widths.items) (good s (place_of (as_piece c.args.piece)) c.args.piece.to) c.push_if.new.self.tokens.items c.push_if.new.self.mode (reverse c.push_if.new.self.widths.items)) (sym c.requires.shape)
          (take_end_as c.args.self.now.tokens.items c.args.depth c.args.has_tokens (reverse c.args.self.now.widths.items) (place_of (as_piece c.args.piece)) c.args.piece.to c.push_if.new.self.tokens.items (reverse c.push_if.new.self.widths.items) c.push_if.new.self.mode c.if-depth-ne0.false
          (a ∙ ap (λ t. c.args.self.now.tokens.items ++ token_if c.args.has_tokens t) c.token.ensures) (ap reverse c.push_if.ensures.widths) puts.mode)) puts.ok;
      fault = if_err c.push_if.result _ _ (λ s e. fault_is s _ e) puts.err;
      within = on_ok c.push_if.result (λ a. let m : count c.push_if.new.self.mode ≡ 0 = ap count puts.mode in omega arith) puts.ok;
    }
