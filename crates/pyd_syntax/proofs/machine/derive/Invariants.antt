use Rattle.std.proofs.Common.{reverse}
use Rattle.pyd_syntax.specs.Terminals.{terminals}
use Rattle.pyd_syntax.specs.Grammar.{start}
use Rattle.pyd_syntax.specs.Table.{table}
use Rattle.pyd_syntax.proofs.Turns.{Reads, left}
use Rattle.pyd_syntax.proofs.machine.derive.Given as goal

abbrev pub invariant-loop-symbol : goal.invariant-loop-symbol
invariant-loop-symbol l = Reads table start (terminals l.tokens) (reverse l.stack.items) l.steps.items l.at

abbrev pub decreases-loop-symbol : goal.decreases-loop-symbol
decreases-loop-symbol l = left table (terminals l.tokens) (reverse l.stack.items) l.at
