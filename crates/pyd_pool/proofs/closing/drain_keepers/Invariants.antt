use Rattle.std.proofs.Common.{◌≡◌, ◌+◌, ℕ, vec_len}
use Rattle.pyd_board.specs.declared.seat.Ticket.{Ticket}
use Rattle.pyd_pool.specs.Accounts.{weigh}
use Rattle.pyd_pool.specs.Hands.{puts, takes}
use Rattle.pyd_pool.specs.Ends.{keeper_account, HaveParts}
use Rattle.pyd_pool.proofs.closing.drain_keepers.Given as goal

abbrev pub decreases-loop-keeper : goal.decreases-loop-keeper
decreases-loop-keeper g l = vec_len l.keepers

abbrev pub invariant-loop-keeper : goal.invariant-loop-keeper
invariant-loop-keeper g l = record {
  parts : HaveParts keeper_account 128 l.keepers.items;
  same : (h : Ticket → ℕ) → puts keeper_account h l.fn.keepers.items + weigh h l.fn.left.items + takes keeper_account h l.keepers.items ≡ takes keeper_account h l.fn.keepers.items + weigh h l.left.items + puts keeper_account h l.keepers.items;
}
