use Rattle.std.proofs.Common.{◌≡◌, ◌+◌, length}
use Rattle.pyd_lex.specs.Lines.{size}
use Rattle.pyd_lex.proofs.place.size.Given as goal

abbrev pub invariant-loop-piece : goal.invariant-loop-piece
invariant-loop-piece l = l.n + size l.piece ≡ size l.initial.piece

abbrev pub decreases-loop-piece : goal.decreases-loop-piece
decreases-loop-piece l = length l.piece
