use Rattle.std.proofs.Common.{◌≡◌, ℕ, List, map, take}
use Rattle.pyd_value.specs.declared.value.Value.{Value}
use Rattle.pyd_scope.proofs.standing.constant_names.Given as goal

abbrev pub invariant-loop-constant : goal.invariant-loop-constant
invariant-loop-constant l = l.made ≡ map (λ (c : List ℕ × Value). c.0) (take l.constant-index l.constant-items)
