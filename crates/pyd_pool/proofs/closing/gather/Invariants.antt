use Rattle.std.proofs.Common.{◌≡◌, ◌+◌, ℕ, ◌≤◌, vec_len, length, map}
use Rattle.crossbeam_deque.specs.Handles.{worker_deque}
use Rattle.pyd_board.specs.declared.seat.Ticket.{Ticket}
use Rattle.pyd_pool.specs.Hands.{puts, takes}
use Rattle.pyd_pool.specs.Ends.{owner_account, keeper_account, keeper_queue, HaveParts, AllFifo, AllRests, rests_put, rests_taken}
use Rattle.pyd_pool.proofs.closing.gather.Given as goal

abbrev pub decreases-loop-rest : goal.decreases-loop-rest
decreases-loop-rest g l = vec_len l.rests

abbrev pub invariant-loop-rest : goal.invariant-loop-rest
invariant-loop-rest g l = record {
  count : l.parts + length l.rests.items ≡ 128;
  more : 64 ≤ l.parts;
  rests : AllRests (map worker_deque l.fn.owners.items) (map keeper_queue l.fn.keepers.items) l.rests.items;
  owners : map worker_deque l.owners.items ≡ map worker_deque l.fn.owners.items;
  keepers : map keeper_queue l.keepers.items ≡ map keeper_queue l.fn.keepers.items;
  fifo : AllFifo l.owners.items;
  owner_parts : HaveParts owner_account l.parts l.owners.items;
  keeper_parts : HaveParts keeper_account l.parts l.keepers.items;
  put : (h : Ticket → ℕ) → puts owner_account h l.owners.items + puts keeper_account h l.keepers.items + rests_put h l.rests.items ≡ puts owner_account h l.fn.owners.items + puts keeper_account h l.fn.keepers.items + rests_put h l.fn.rests.items;
  taken : (h : Ticket → ℕ) → takes owner_account h l.owners.items + takes keeper_account h l.keepers.items + rests_taken h l.rests.items ≡ takes owner_account h l.fn.owners.items + takes keeper_account h l.fn.keepers.items + rests_taken h l.fn.rests.items;
}
