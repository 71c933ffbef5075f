use Rattle.std.proofs.Common.{◌≡◌, ◌++◌, map}
use Rattle.std.specs.Vec.Iter.{into_iter_items, into_iter_len}
use Rattle.pyd_pool.specs.Ends.{owner_of, rest_of}
use Rattle.pyd_pool.proofs.closing.part.Given as goal

abbrev pub decreases-loop-hand : goal.decreases-loop-hand
decreases-loop-hand g l = into_iter_len l.left

abbrev pub invariant-loop-hand : goal.invariant-loop-hand
invariant-loop-hand g l = record {
  owners : l.owners.items ++ map owner_of (into_iter_items l.left) ≡ map owner_of l.fn.hands.items;
  rests : l.rests.items ++ map rest_of (into_iter_items l.left) ≡ map rest_of l.fn.hands.items;
}
