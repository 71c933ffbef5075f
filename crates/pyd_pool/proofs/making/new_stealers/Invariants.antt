use Rattle.std.proofs.Common.{◌≡◌, map, take}
use Rattle.crossbeam_deque.specs.Handles.{worker_deque, stealer_deque}
use Rattle.pyd_pool.proofs.making.new_stealers.Given as goal

abbrev pub invariant-loop-k : goal.invariant-loop-k
invariant-loop-k l = map stealer_deque l.stealers.items ≡ take l.k (map worker_deque l.owners.items)
