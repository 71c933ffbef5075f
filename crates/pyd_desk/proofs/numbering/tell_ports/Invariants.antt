-- The marks tell of the nodes from here on.
use Rattle.std.proofs.Common.{◌≡◌, ◌≤◌, ◌<◌, ℕ, drop, length}
use Rattle.std.specs.List.{All}
use Rattle.pyd_runs.specs.Records.{node_at}
use Rattle.pyd_desk.specs.Desks.{mark_at}
use Rattle.pyd_desk.specs.Growing.{told}
use Rattle.pyd_desk.proofs.numbering.tell_ports.Given as goal

abbrev pub invariant-loop-left : goal.invariant-loop-left
invariant-loop-left l = record {
  within : l.left ≤ length l.nodes;
  count : length l.marks.items ≡ length l.initial.marks.items;
  told : All (λ n. n.id < length l.initial.marks.items) l.nodes → (k : ℕ)
      → mark_at l.marks.items k
      ≡ told (node_at (drop l.left l.nodes) k) (mark_at l.initial.marks.items k);
}

abbrev pub decreases-loop-left : goal.decreases-loop-left
decreases-loop-left l = l.left
