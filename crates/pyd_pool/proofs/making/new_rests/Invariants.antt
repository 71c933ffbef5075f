use Rattle.std.proofs.Common.{◌≡◌, ◌-◌, ℕ, ◌≤◌, length, map, []}
use Rattle.crossbeam_deque.specs.Handles.{worker_deque}
use Rattle.pyd_board.specs.declared.seat.Ticket.{Ticket}
use Rattle.pyd_pool.specs.Accounts.{account}
use Rattle.pyd_pool.specs.Hands.{deque_account, queue_account, puts, takes}
use Rattle.pyd_pool.specs.Ends.{owner_account, keeper_account, keeper_queue, Every, AllFifo, AllRests, Unused}
use Rattle.pyd_pool.proofs.making.new_rests.Given as goal

abbrev pub invariant-loop-made : goal.invariant-loop-made
invariant-loop-made l = record {
  long : length l.rests.items ≡ l.made;
  owners : map worker_deque l.owners.items ≡ map worker_deque l.fn.owners.items;
  keepers : map keeper_queue l.keepers.items ≡ map keeper_queue l.fn.keepers.items;
  fifo : AllFifo l.owners.items;
  owner_accounts : Every (λ x. owner_account x ≡ account (128 - l.made) [] []) l.owners.items;
  keeper_accounts : Every (λ x. keeper_account x ≡ account (128 - l.made) [] []) l.keepers.items;
  rests : AllRests (map worker_deque l.fn.owners.items) (map keeper_queue l.fn.keepers.items) l.rests.items;
  unused : (h : Ticket → ℕ) → Every (Unused h) l.rests.items;
}
