-- The names so far, and then those that are left, are all that is put at the end.
use Rattle.std.proofs.Common.{◌≡◌, ◌++◌, drop}
use Rattle.pyd_names.specs.Binding.{names_of}
use Rattle.pyd_names.proofs.locals.add_bound.Given as goal

abbrev pub invariant-loop-binding : goal.invariant-loop-binding
invariant-loop-binding l = l.out ++ names_of (drop l.binding-index l.bindings) ≡ l.initial.out ++ names_of l.bindings
