-- The targets so far, and then those that are left, are all that is put at the end.
use Rattle.std.proofs.Common.{◌≡◌, ◌++◌, map, drop}
use Rattle.pyd_names.specs.Binding.{bound_in}
use Rattle.pyd_names.proofs.binding.add_names.Given as goal

abbrev pub invariant-loop-name : goal.invariant-loop-name
invariant-loop-name l = l.out ++ map (bound_in l.line) (drop l.name-index l.names) ≡ l.initial.out ++ map (bound_in l.line) l.names
