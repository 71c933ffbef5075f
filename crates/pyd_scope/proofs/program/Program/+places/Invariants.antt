-- The statement whose suite a statement is in has a lower number.
use Rattle.std.proofs.Common.{◌+◌, ◌*◌}
use Rattle.pyd_scope.proofs.Measures.{block_measure}
use Rattle.pyd_scope.proofs.program.Program.+places.Given as goal

abbrev pub decreases-place : goal.decreases-place
decreases-place l = 3 * l.statement + 2

abbrev pub decreases-statement : goal.decreases-statement
decreases-statement l = 3 * l.statement + 3

abbrev pub decreases-block_behind : goal.decreases-block_behind
decreases-block_behind l = block_measure l.suite
