-- What is left fits, and the marks by number are as before.
use Rattle.std.proofs.Common.{◌≡◌, ◌≤◌, ◌+◌, ℕ, length, vec_capacity}
use Rattle.pyd_desk.specs.Desks.{mark_at}
use Rattle.pyd_desk.proofs.numbering.add_marks.Given as goal

abbrev pub invariant-loop-left : goal.invariant-loop-left
invariant-loop-left l = record {
  room : length l.marks.items + l.left ≤ vec_capacity l.marks;
  count : length l.initial.marks.items ≤ l.count → length l.marks.items + l.left ≡ l.count;
  marks : (k : ℕ) → mark_at l.marks.items k ≡ mark_at l.initial.marks.items k;
}

abbrev pub decreases-loop-left : goal.decreases-loop-left
decreases-loop-left l = l.left
