-- The places so far, and then those that are left, are all.
use Rattle.std.proofs.Common.{◌≡◌, ◌++◌, drop}
use Rattle.pyd_scope.specs.Indexing.{unmarked_from}
use Rattle.pyd_scope.proofs.index.unmarked.Given as goal

abbrev pub invariant-loop-place : goal.invariant-loop-place
invariant-loop-place l =
    l.places.items ++ unmarked_from l.marks l.place (drop l.place l.items) ≡ unmarked_from l.marks 0 l.items
