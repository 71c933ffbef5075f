use Rattle.std.proofs.Common.{◌≡◌, ℕ, map, length}
use Rattle.pyd_board.specs.declared.seat.Ticket.{Ticket}
use Rattle.pyd_pool.specs.Hands.{deque_account, deque_id, puts, takes, WereEmpty}
use Rattle.pyd_pool.proofs.looks.steal_any.Given as goal

abbrev pub invariant-loop-k : goal.invariant-loop-k
invariant-loop-k g l = record {
  long : length l.deques.items ≡ length l.fn.deques.items;
  same : map deque_id l.deques.items ≡ map deque_id l.fn.deques.items;
  put : (h : Ticket → ℕ) → puts deque_account h l.deques.items ≡ puts deque_account h l.fn.deques.items;
  taken : (h : Ticket → ℕ) → takes deque_account h l.deques.items ≡ takes deque_account h l.fn.deques.items;
  empty : WereEmpty deque_account l.k l.deques.items;
}
