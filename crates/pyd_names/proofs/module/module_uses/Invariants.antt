-- What was put at the end, and then what is left, is all that the statements use.
use Rattle.std.proofs.Common.{◌≡◌, ◌++◌, drop}
use Rattle.std.specs.List.{flat_map}
use Rattle.pyd_names.specs.Uses.{statement_uses}
use Rattle.pyd_names.proofs.module.module_uses.Given as goal

abbrev pub invariant-loop-stmt : goal.invariant-loop-stmt
invariant-loop-stmt l =
    l.out ++ flat_map (λ s. statement_uses s.now) (drop l.stmt-index l.stmt-items) ≡ flat_map (λ s. statement_uses s.now) l.stmt-items
