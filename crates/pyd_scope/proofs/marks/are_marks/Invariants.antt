use Rattle.std.proofs.Common.{◌≡◌, drop}
use Rattle.std.specs.List.{list_all}
use Rattle.pyd_names.specs.Binding.{is_among}
use Rattle.pyd_scope.specs.Rules as rule
use Rattle.pyd_scope.proofs.marks.are_marks.Given as goal

abbrev pub invariant-loop-name : goal.invariant-loop-name
invariant-loop-name l = list_all (is_among rule.mark_names) l.names ≡ list_all (is_among rule.mark_names) (drop l.name-index l.names)
