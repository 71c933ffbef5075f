-- What is left fits, and what stands at the places is as before.
use Rattle.std.proofs.Common.{◌≡◌, ◌≤◌, ◌+◌, ℕ, None, get_or, length, vec_capacity}
use Rattle.pyd_desk.proofs.numbering.add_places.Given as goal

abbrev pub invariant-loop-left : goal.invariant-loop-left
invariant-loop-left l = record {
  room : length l.driver.items + l.left ≤ vec_capacity l.driver;
  count : length l.initial.driver.items ≤ l.count → length l.driver.items + l.left ≡ l.count;
  driver : (k : ℕ) → get_or l.driver.items k None ≡ get_or l.initial.driver.items k None;
}

abbrev pub decreases-loop-left : goal.decreases-loop-left
decreases-loop-left l = l.left
