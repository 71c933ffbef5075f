use Rattle.std.proofs.Common.{reverse, arith, ap, subst, sym}
use Rattle.pyd_lex.specs.declared.mode.Mode.TheVariants.{Inside}
use Rattle.pyd_lex.specs.Lines.{place_of}
use Rattle.pyd_lex.specs.Machine.{count}
use Rattle.pyd_lex.specs.Steps.{good}
use Rattle.pyd_lex.specs.Scanner.{IsStep, as_piece}
use Rattle.pyd_lex.proofs.Steps.{take_spacing}
use Rattle.pyd_lex.proofs.scanner.Scanner.inside.Goals as goal

pub returns-in-Token : goal.returns-in-Token
returns-in-Token c =
    subst (λ s. IsStep (Inside c.args.depth c.args.has_tokens) c.args.self.now c.inner_token.new.self (good s (place_of (as_piece c.args.piece)) c.args.piece.to) c.inner_token.result) (sym c.in-Token.is) c.inner_token.ensures

pub returns-in_default : goal.returns-in_default
returns-in_default c = record {
  ok = take_spacing c.args.self.now.tokens.items c.args.depth c.args.has_tokens (reverse c.args.self.now.widths.items) (place_of (as_piece c.args.piece)) c.args.piece.to c.args.piece.shape c.args.self.now.mode c.in_default.not-Token c.in_default.not-Break c.requires.mode;
  fault = tt;
  within = let m = ap count c.requires.mode in omega arith;
}
