use Rattle.std.proofs.Common.{◌≡◌, length, map}
use Rattle.pyd_words.specs.Words as spec
use Rattle.pyd_words.proofs.read.named.Given as goal

abbrev pub invariant-loop-modes : goal.invariant-loop-modes
invariant-loop-modes l =
    spec.named (map (λ row. (row.0.now, row.1)) l.modes) l.name ≡ spec.named (map (λ row. (row.0.now, row.1)) l.initial.modes) l.name

abbrev pub decreases-loop-modes : goal.decreases-loop-modes
decreases-loop-modes l = length l.modes
