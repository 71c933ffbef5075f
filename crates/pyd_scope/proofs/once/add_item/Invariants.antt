use Rattle.std.proofs.Common.{◌≡◌, ◌++◌, take}
use Rattle.pyd_names.specs.Binding as names
use Rattle.pyd_scope.proofs.once.add_item.Given as goal

abbrev pub invariant-loop-binding : goal.invariant-loop-binding
invariant-loop-binding l = l.out ≡ l.initial.out ++ names.names_of (take l.binding-index l.binding-items)
