-- What an expression is a part of has a lower number.
use Rattle.std.proofs.Common.{◌+◌, ◌*◌}
use Rattle.pyd_scope.proofs.program.Program.+expressions.Given as goal

abbrev pub decreases-expression : goal.decreases-expression
decreases-expression l = 4 * l.number

abbrev pub decreases-suffix : goal.decreases-suffix
decreases-suffix l = 4 * l.of + 1

abbrev pub decreases-part : goal.decreases-part
decreases-part l = 4 * l.of + 1

abbrev pub decreases-low : goal.decreases-low
decreases-low l = 4 * l.of + 2

abbrev pub decreases-high : goal.decreases-high
decreases-high l = 4 * l.of + 2
