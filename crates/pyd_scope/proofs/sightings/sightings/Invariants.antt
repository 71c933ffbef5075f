use Rattle.std.proofs.Common.{◌≡◌, ◌++◌, take, Bor}
use Rattle.std.specs.List.{flat_map}
use Rattle.pyd_tree.specs.declared.file.Func.{Func}
use Rattle.pyd_scope.specs.Standings as spec
use Rattle.pyd_scope.proofs.sightings.sightings.Given as goal

abbrev pub invariant-loop-func : goal.invariant-loop-func
invariant-loop-func l = l.out.items ≡ l.initial.out.items ++ flat_map (λ (f : Bor Func). spec.function_sightings l.outside f.now) (take l.func-index l.func-items)
