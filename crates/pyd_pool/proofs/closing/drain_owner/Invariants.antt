use Rattle.std.proofs.Common.{◌≡◌, ◌+◌, ℕ}
use Rattle.crossbeam_deque.specs.Handles.{worker_view, worker_flavor}
use Rattle.pyd_board.specs.declared.seat.Ticket.{Ticket}
use Rattle.pyd_pool.specs.Accounts.{weigh}
use Rattle.pyd_pool.proofs.closing.drain_owner.Given as goal

abbrev pub invariant-loop : goal.invariant-loop
invariant-loop g l = record {
  parts : (worker_view l.own).parts ≡ 128;
  fifo : worker_flavor l.own ≡ 0;
  put : (h : Ticket → ℕ) → weigh h (worker_view l.own).put ≡ weigh h (worker_view l.fn.own).put;
  taken : (h : Ticket → ℕ) → weigh h (worker_view l.own).taken + weigh h l.fn.left.items ≡ weigh h (worker_view l.fn.own).taken + weigh h l.left.items;
}
