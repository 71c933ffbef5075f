use Rattle.std.proofs.Common.{◌≡◌, drop}
use Rattle.std.specs.Map.{lookup}
use Rattle.pyd_names.specs.Binding.{same_name}
use Rattle.pyd_scope.proofs.resolve.constant_named.Given as goal

abbrev pub invariant-loop-constant : goal.invariant-loop-constant
invariant-loop-constant l = lookup (same_name l.name) l.constants ≡ lookup (same_name l.name) (drop l.constant-index l.constants)
