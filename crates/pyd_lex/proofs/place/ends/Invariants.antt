use Rattle.std.proofs.Common.{◌≡◌, ◌+◌, length}
use Rattle.pyd_lex.specs.Lines.{ends}
use Rattle.pyd_lex.proofs.place.ends.Given as goal

abbrev pub invariant-loop-piece : goal.invariant-loop-piece
invariant-loop-piece l = l.n + ends l.piece ≡ ends l.initial.piece

abbrev pub decreases-loop-piece : goal.decreases-loop-piece
decreases-loop-piece l = length l.piece
