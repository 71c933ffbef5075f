use Rattle.std.proofs.Common.{◌≡◌, ◌||◌, drop}
use Rattle.pyd_names.specs.Binding as names
use Rattle.pyd_scope.specs.Least.{least, lesser}
use Rattle.pyd_scope.specs.Rules as rule
use Rattle.pyd_scope.proofs.definitions.rebound_line.Given as goal

abbrev pub invariant-loop-binding : goal.invariant-loop-binding
invariant-loop-binding l =
    least (rule.bound_where (λ n. rule.is_taken l.imported n || names.is_among l.functions n) l.bindings)
    ≡ lesser l.line (least (rule.bound_where (λ n. rule.is_taken l.imported n || names.is_among l.functions n) (drop l.binding-index l.bindings)))
