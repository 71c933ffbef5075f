-- What was put at the end, and then what is left, is all that the statements bind.
use Rattle.std.proofs.Common.{◌≡◌, ◌++◌, drop}
use Rattle.std.specs.List.{flat_map}
use Rattle.pyd_names.specs.Binding.{statement_bindings}
use Rattle.pyd_names.proofs.module.module_bindings.Given as goal

abbrev pub invariant-loop-stmt : goal.invariant-loop-stmt
invariant-loop-stmt l =
    l.out ++ flat_map (λ s. statement_bindings s.now) (drop l.stmt-index l.stmt-items) ≡ flat_map (λ s. statement_bindings s.now) l.stmt-items
