use Rattle.std.proofs.Common.{◌≡◌, drop}
use Rattle.std.specs.List.{list_any}
use Rattle.pyd_names.specs.Binding.{same_name}
use Rattle.pyd_scope.proofs.marks.has_mark.Given as goal

abbrev pub invariant-loop-mark : goal.invariant-loop-mark
invariant-loop-mark l = list_any (λ m. same_name m.1 l.word) l.mark-items ≡ list_any (λ m. same_name m.1 l.word) (drop l.mark-index l.mark-items)
