use Rattle.std.proofs.Common.{◌≡◌, ◌++◌, [], take, drop}
use Rattle.pyd_scope.specs.Once as spec
use Rattle.pyd_scope.proofs.once.Once.of.Given as goal

abbrev pub invariant-loop-name : goal.invariant-loop-name
invariant-loop-name l = (l.bound ≡ take l.name-index l.name-items) × (spec.repeated [] l.name-items ≡ l.again ++ spec.repeated l.bound (drop l.name-index l.name-items))
