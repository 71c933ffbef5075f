use Rattle.std.proofs.Common.{◌≡◌, ◌+◌, ℕ}
use Rattle.pyd_board.specs.declared.seat.Ticket.{Ticket}
use Rattle.pyd_pool.specs.Accounts.{weigh}
use Rattle.pyd_pool.specs.Ends.{keeper_account}
use Rattle.pyd_pool.proofs.closing.drain_keeper.Given as goal

abbrev pub invariant-loop : goal.invariant-loop
invariant-loop g l = record {
  parts : (keeper_account l.keeper).parts ≡ 128;
  put : (h : Ticket → ℕ) → weigh h (keeper_account l.keeper).put ≡ weigh h (keeper_account l.fn.keeper).put;
  taken : (h : Ticket → ℕ) → weigh h (keeper_account l.keeper).taken + weigh h l.fn.left.items ≡ weigh h (keeper_account l.fn.keeper).taken + weigh h l.left.items;
}
