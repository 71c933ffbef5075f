use Rattle.std.proofs.Common.{◌≡◌, ◌+◌, ℕ, vec_len}
use Rattle.pyd_board.specs.declared.seat.Ticket.{Ticket}
use Rattle.pyd_pool.specs.Accounts.{weigh}
use Rattle.pyd_pool.specs.Hands.{puts, takes}
use Rattle.pyd_pool.specs.Ends.{owner_account, HaveParts, AllFifo}
use Rattle.pyd_pool.proofs.closing.drain_owners.Given as goal

abbrev pub decreases-loop-own : goal.decreases-loop-own
decreases-loop-own g l = vec_len l.owners

abbrev pub invariant-loop-own : goal.invariant-loop-own
invariant-loop-own g l = record {
  parts : HaveParts owner_account 128 l.owners.items;
  fifo : AllFifo l.owners.items;
  same : (h : Ticket → ℕ) → puts owner_account h l.fn.owners.items + weigh h l.fn.left.items + takes owner_account h l.owners.items ≡ takes owner_account h l.fn.owners.items + weigh h l.left.items + puts owner_account h l.owners.items;
}
