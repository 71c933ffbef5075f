use Rattle.std.proofs.Common.{◌≡◌, ◌≤◌, length}
use Rattle.crossbeam_deque.specs.Handles.{worker_deque}
use Rattle.pyd_pool.specs.Hands.{deque_account, deque_id}
use Rattle.pyd_pool.specs.Ends.{owner_account, AllFifo}
use Rattle.pyd_pool.specs.Passing.{Splits}
use Rattle.pyd_pool.proofs.making.new_deques.Given as goal

abbrev pub invariant-loop-k : goal.invariant-loop-k
invariant-loop-k l = record {
  long : length l.owners.items ≡ length l.fn.owners.items;
  splits : Splits owner_account deque_account worker_deque deque_id l.parts l.k l.fn.owners.items l.owners.items l.deques.items;
  fifo : AllFifo l.owners.items;
}
