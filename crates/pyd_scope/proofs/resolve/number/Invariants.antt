use Rattle.std.proofs.Common.{◌≡◌, ◌+◌, drop, map}
use Rattle.std.specs.List.{position_from}
use Rattle.pyd_names.specs.Binding.{same_name}
use Rattle.pyd_scope.specs.declared.routine.Routine.{Routine}
use Rattle.pyd_scope.proofs.resolve.number.Given as goal

abbrev pub invariant-loop-function : goal.invariant-loop-function
invariant-loop-function l = record {
  counted : l.number ≡ l.function-index;
  onward : position_from (same_name l.name) 1 (map (λ (f : Routine). f.name) l.functions)
      ≡ position_from (same_name l.name) (l.number + 1) (map (λ (f : Routine). f.name) (drop l.function-index l.functions));
}
