-- The places so far, and then those that are left, are all.
use Rattle.std.proofs.Common.{◌≡◌, ◌++◌, drop}
use Rattle.std.specs.Prelude.{is_some}
use Rattle.pyd_names.specs.Binding.{function_in}
use Rattle.pyd_scope.specs.Indexing.{places_from}
use Rattle.pyd_scope.proofs.index.function_places_of.Given as goal

abbrev pub invariant-loop-place : goal.invariant-loop-place
invariant-loop-place l =
    l.places.items ++ places_from (λ i. is_some (function_in i)) l.place (drop l.place l.items)
    ≡ places_from (λ i. is_some (function_in i)) 0 l.items
