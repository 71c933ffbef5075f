-- The names so far and those of what is left are all names.
use Rattle.std.proofs.Common.{◌≡◌, ◌++◌, drop}
use Rattle.std.specs.Prelude.{option_map}
use Rattle.pyd_derivation.specs.Actions.{all_names}
use Rattle.pyd_derivation.proofs.targets.all_names.Given as goal

abbrev pub invariant-loop-expr : goal.invariant-loop-expr
invariant-loop-expr l = record {
  so_far : all_names l.exprs ≡ option_map (λ ns. l.names ++ ns) (all_names (drop l.expr-index l.exprs));
}
