use Rattle.std.proofs.Common.{◌≡◌, ◌++◌, take}
use Rattle.pyd_scope.proofs.names.Names.add_all.Given as goal

abbrev pub invariant-loop-name : goal.invariant-loop-name
invariant-loop-name l = l.self ≡ l.initial.self ++ take l.name-index l.names
