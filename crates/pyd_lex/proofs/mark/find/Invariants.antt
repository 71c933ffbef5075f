use Rattle.std.proofs.Common.{◌≡◌, length, map}
use Rattle.pyd_lex.specs.Words.{first_front}
use Rattle.pyd_lex.proofs.mark.find.Given as goal

abbrev pub invariant-loop-table : goal.invariant-loop-table
invariant-loop-table l = first_front (map (λ row. (row.0.now, row.1)) l.table) l.text ≡ first_front (map (λ row. (row.0.now, row.1)) l.initial.table) l.text

abbrev pub decreases-loop-table : goal.decreases-loop-table
decreases-loop-table l = length l.table
