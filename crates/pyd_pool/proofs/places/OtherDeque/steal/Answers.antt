use Rattle.std.proofs.Common.{◌<◌, arith}
use Rattle.pyd_pool.proofs.Steps.{take_deque, few_deque}
use Rattle.pyd_pool.proofs.places.OtherDeque.steal.Goals as goal

pub steal_as-requires-clause-takes : goal.steal_as-requires-clause-takes
steal_as-requires-clause-takes g c = let i = c.loop.invariant.5 in take_deque _ _ (omega arith)
