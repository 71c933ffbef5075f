-- The spaces that were left out change nothing.
use Rattle.std.proofs.Common.{◌≡◌, length}
use Rattle.pyd_text.specs.Numerals.{without_spaces_behind}
use Rattle.pyd_text.proofs.numerals.without_spaces_behind.Given as goal

abbrev pub invariant-loop-s : goal.invariant-loop-s
invariant-loop-s l = without_spaces_behind l.s ≡ without_spaces_behind l.initial.s

abbrev pub decreases-loop-s : goal.decreases-loop-s
decreases-loop-s l = length l.s
