use Rattle.std.proofs.Common.{◌≡◌, vec_len}
use Rattle.crossbeam_deque.specs.Handles.{worker_deque}
use Rattle.pyd_pool.specs.Hands.{deque_account, deque_id}
use Rattle.pyd_pool.specs.Ends.{owner_account, AllFifo}
use Rattle.pyd_pool.specs.Passing.{Joins}
use Rattle.pyd_pool.proofs.closing.join_deques.Given as goal

abbrev pub decreases-loop-deque : goal.decreases-loop-deque
decreases-loop-deque l = vec_len l.deques

abbrev pub invariant-loop-deque : goal.invariant-loop-deque
invariant-loop-deque l = record {
  joins : Joins owner_account deque_account worker_deque deque_id l.parts l.fn.owners.items l.fn.deques.items l.owners.items l.deques.items;
  fifo : AllFifo l.owners.items;
}
