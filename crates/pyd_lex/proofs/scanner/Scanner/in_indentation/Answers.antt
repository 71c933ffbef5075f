use Rattle.std.proofs.Common.{reverse, arith, refl, subst, sym}
use Rattle.pyd_lex.specs.declared.mode.Mode.TheVariants.{Indentation}
use Rattle.pyd_lex.specs.Lines.{place_of}
use Rattle.pyd_lex.specs.Steps.{good}
use Rattle.pyd_lex.specs.Scanner.{IsStep, as_piece}
use Rattle.pyd_lex.proofs.Steps.{take_indentation}
use Rattle.pyd_lex.proofs.scanner.Scanner.in_indentation.Goals as goal

pub returns-in-Token : goal.returns-in-Token
returns-in-Token c =
    subst (λ s. IsStep (Indentation c.args.width c.args.tab) c.args.self.now c.first_token.new.self (good s (place_of (as_piece c.args.piece)) c.args.piece.to) c.first_token.result) (sym c.in-Token.is) c.first_token.ensures

pub returns : goal.returns
returns c = record {
  ok = take_indentation c.args.self.now.tokens.items c.args.width c.args.tab (reverse c.args.self.now.widths.items) (place_of (as_piece c.args.piece)) c.args.piece.to c.args.piece.shape c.args.self.now.tokens.items (reverse c.args.self.now.widths.items) c.indentation_after-self.result c.in_default.not-Token refl refl c.indentation_after-self.ensures.value;
  fault = tt;
  within = let w = c.indentation_after-self.ensures.within in omega arith;
}
