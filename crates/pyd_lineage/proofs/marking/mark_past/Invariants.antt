-- The set has what the nodes from here on mark.
use Rattle.std.proofs.Common.{ℕ, List, ◌≤◌, length, drop}
use Rattle.pyd_lineage.specs.Marking.{has, IsSetOf, past_names}
use Rattle.pyd_lineage.proofs.marking.mark_past.Given as goal

abbrev pub invariant-loop-left : goal.invariant-loop-left
invariant-loop-left l = record {
  within : l.left ≤ length l.past;
  marked : (behind : List ℕ) → IsSetOf l.initial.set behind
      → IsSetOf l.set (past_names (has l.known) (drop l.left l.past) behind);
}

abbrev pub decreases-loop-left : goal.decreases-loop-left
decreases-loop-left l = l.left
