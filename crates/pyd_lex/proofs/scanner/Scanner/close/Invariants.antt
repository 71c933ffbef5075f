use Rattle.std.proofs.Common.{◌≡◌, length, reverse, Ok}
use Rattle.pyd_lex.specs.Lines.{ahead, closing}
use Rattle.pyd_lex.proofs.scanner.Scanner.close.Given as goal

abbrev pub invariant-loop-self : goal.invariant-loop-self
invariant-loop-self l = ahead l.initial.self.tokens.items (Ok (closing l.end (reverse l.initial.self.widths.items))) ≡ ahead l.self.tokens.items (Ok (closing l.end (reverse l.self.widths.items)))

abbrev pub decreases-loop-self : goal.decreases-loop-self
decreases-loop-self l = length l.self.widths.items
