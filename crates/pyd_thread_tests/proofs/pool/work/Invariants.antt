use Rattle.std.proofs.Common.{◌≡◌}
use Rattle.pyd_pool.specs.Ends.{hand_places}
use Rattle.pyd_thread_tests.proofs.pool.work.Given as goal

abbrev pub invariant-loop-node : goal.invariant-loop-node
invariant-loop-node g l = hand_places l.hand ≡ hand_places l.fn.hand
