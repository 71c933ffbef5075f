use Rattle.std.proofs.Common.{◌≡◌}
use Rattle.pyd_pool.proofs.closing.keep.Given as goal

abbrev pub invariant-loop : goal.invariant-loop
invariant-loop g l = (l.left.items ≡ l.fn.left.items) × (l.value ≡ l.fn.value)
