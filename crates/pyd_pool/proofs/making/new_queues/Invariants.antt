use Rattle.std.proofs.Common.{◌≡◌, ◌≤◌, length}
use Rattle.pyd_pool.specs.Hands.{queue_account, queue_id}
use Rattle.pyd_pool.specs.Ends.{keeper_account, keeper_queue}
use Rattle.pyd_pool.specs.Passing.{Splits}
use Rattle.pyd_pool.proofs.making.new_queues.Given as goal

abbrev pub invariant-loop-k : goal.invariant-loop-k
invariant-loop-k l = record {
  long : length l.keepers.items ≡ length l.fn.keepers.items;
  splits : Splits keeper_account queue_account keeper_queue queue_id l.parts l.k l.fn.keepers.items l.keepers.items l.queues.items;
}
