use Rattle.std.proofs.Common.{◌≡◌, drop}
use Rattle.pyd_scope.specs.Least.{least, lesser}
use Rattle.pyd_scope.specs.Rules as rule
use Rattle.pyd_scope.proofs.definitions.taken_line.Given as goal

abbrev pub invariant-loop-binding : goal.invariant-loop-binding
invariant-loop-binding l =
    least (rule.bound_where (rule.is_taken l.imported) l.bindings)
    ≡ lesser l.line (least (rule.bound_where (rule.is_taken l.imported) (drop l.binding-index l.bindings)))
