use Rattle.std.proofs.Common.{◌≡◌, ◌++◌, ℕ, length, map}
use Rattle.std.specs.Vec.Iter.{into_iter_items, into_iter_len}
use Rattle.crossbeam_deque.specs.Handles.{worker_deque}
use Rattle.pyd_board.specs.declared.seat.Ticket.{Ticket}
use Rattle.pyd_pool.specs.Ends.{keeper_queue, owner_of, Every, AllRests, HaveAll, AreAtHome, Unused, all_put, all_taken}
use Rattle.pyd_pool.proofs.making.new_hands.Given as goal

abbrev pub decreases-loop-own : goal.decreases-loop-own
decreases-loop-own l = into_iter_len l.left

abbrev pub invariant-loop-own : goal.invariant-loop-own
invariant-loop-own l = record {
  owners : map owner_of l.hands.items ++ into_iter_items l.left ≡ l.fn.owners.items;
  long : length l.rests.items ≡ length (into_iter_items l.left);
  rests : AllRests (map worker_deque l.fn.owners.items) (map keeper_queue l.keepers.items) l.rests.items;
  unused : (h : Ticket → ℕ) → Every (Unused h) l.rests.items;
  have : HaveAll (map worker_deque l.fn.owners.items) (map keeper_queue l.keepers.items) l.hands.items;
  none : (h : Ticket → ℕ) → (all_put h l.hands.items ≡ 0) × (all_taken h l.hands.items ≡ 0);
  homes : AreAtHome l.workers l.hands.items;
}
