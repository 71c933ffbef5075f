use Rattle.std.proofs.Common.{◌≡◌, ◌≤◌, ◌++◌, reverse, drop, length}
use Rattle.pyd_syntax.specs.declared.productions.TheConstants.{WIDTH}
use Rattle.pyd_syntax.specs.Grammar.{grammar}
use Rattle.pyd_syntax.specs.Derivation.{symbols}
use Rattle.pyd_syntax.proofs.machine.expand.Given as goal

abbrev pub invariant-loop-i : goal.invariant-loop-i
invariant-loop-i l = record {
  within : l.i ≤ length (symbols grammar l.production);
  width : l.i ≤ WIDTH;
  so_far : reverse l.stack.items ≡ drop l.i (symbols grammar l.production) ++ reverse l.fn.stack.items;
}

abbrev pub decreases-loop-i : goal.decreases-loop-i
decreases-loop-i l = l.i
