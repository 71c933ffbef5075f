use Rattle.std.proofs.Common.{◌≡◌, ℕ, map, length}
use Rattle.pyd_board.specs.declared.seat.Ticket.{Ticket}
use Rattle.pyd_pool.specs.Hands.{queue_account, queue_id, puts, takes, WereEmpty}
use Rattle.pyd_pool.proofs.looks.pop_any.Given as goal

abbrev pub invariant-loop-k : goal.invariant-loop-k
invariant-loop-k g l = record {
  long : length l.queues.items ≡ length l.fn.queues.items;
  same : map queue_id l.queues.items ≡ map queue_id l.fn.queues.items;
  put : (h : Ticket → ℕ) → puts queue_account h l.queues.items ≡ puts queue_account h l.fn.queues.items;
  taken : (h : Ticket → ℕ) → takes queue_account h l.queues.items ≡ takes queue_account h l.fn.queues.items;
  empty : WereEmpty queue_account l.k l.queues.items;
}
