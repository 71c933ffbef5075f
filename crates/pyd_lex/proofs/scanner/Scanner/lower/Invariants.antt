use Rattle.std.proofs.Common.{◌≡◌, ℕ, List, length, reverse}
use Rattle.pyd_lex.specs.Lines.{Answer, ahead, lowered}
use Rattle.pyd_lex.proofs.scanner.Scanner.lower.Given as goal

abbrev pub invariant-loop-self : goal.invariant-loop-self
invariant-loop-self l = record {
  same : (next : List ℕ → Answer) → ahead l.initial.self.tokens.items (lowered l.width l.place (reverse l.initial.self.widths.items) next) ≡ ahead l.self.tokens.items (lowered l.width l.place (reverse l.self.widths.items) next);
  mode : l.self.mode ≡ l.initial.self.mode;
}

abbrev pub decreases-loop-self : goal.decreases-loop-self
decreases-loop-self l = length l.self.widths.items
