use Rattle.std.proofs.Common.{◌≡◌, ◌++◌, map, take}
use Rattle.pyd_scope.specs.Standings as spec
use Rattle.pyd_scope.proofs.sightings.add_sightings.Given as goal

abbrev pub invariant-loop-name_use : goal.invariant-loop-name_use
invariant-loop-name_use l = l.out.items ≡ l.initial.out.items ++ map (spec.sighting_in l.outside l.locals l.functional) (take l.name_use-index l.uses)
