use Rattle.std.proofs.Common.{◌≡◌, [], drop}
use Rattle.pyd_scope.specs.Least.{least, lesser}
use Rattle.pyd_scope.specs.Rules as rule
use Rattle.pyd_scope.proofs.definitions.repeated_line.Given as goal

abbrev pub invariant-loop-binding : goal.invariant-loop-binding
invariant-loop-binding l = least (rule.repeats [] l.bindings) ≡ lesser l.line (least (rule.repeats l.before (drop l.binding-index l.bindings)))
