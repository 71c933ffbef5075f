use Rattle.std.proofs.Common.{◌≡◌, vec_len}
use Rattle.pyd_pool.specs.Hands.{queue_account, queue_id}
use Rattle.pyd_pool.specs.Ends.{keeper_account, keeper_queue}
use Rattle.pyd_pool.specs.Passing.{Joins}
use Rattle.pyd_pool.proofs.closing.join_queues.Given as goal

abbrev pub decreases-loop-queue : goal.decreases-loop-queue
decreases-loop-queue l = vec_len l.queues

abbrev pub invariant-loop-queue : goal.invariant-loop-queue
invariant-loop-queue l = Joins keeper_account queue_account keeper_queue queue_id l.parts l.fn.keepers.items l.fn.queues.items l.keepers.items l.queues.items
