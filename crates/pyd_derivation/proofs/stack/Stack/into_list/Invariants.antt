-- The items so far and those left are all of them.
use Rattle.std.proofs.Common.{◌≡◌, ◌++◌, length}
use Rattle.pyd_derivation.proofs.stack.Stack.into_list.Given as goal

abbrev pub invariant-loop-item : goal.invariant-loop-item
invariant-loop-item g l = record {
  all : l.list ++ l.left ≡ l.fn.self;
}

abbrev pub decreases-loop-item : goal.decreases-loop-item
decreases-loop-item g l = length l.left
