use Rattle.std.proofs.Common.{◌≡◌, [], drop}
use Rattle.pyd_scope.specs.Least.{least, lesser}
use Rattle.pyd_scope.specs.Rules as rule
use Rattle.pyd_scope.proofs.marks.bad_marks.Given as goal

abbrev pub invariant-loop-mark : goal.invariant-loop-mark
invariant-loop-mark l = least (rule.bad_marks l.above [] l.marks) ≡ lesser l.line (least (rule.bad_marks l.above l.before (drop l.mark-index l.marks)))
