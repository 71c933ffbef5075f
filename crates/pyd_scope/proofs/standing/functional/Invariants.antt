use Rattle.std.proofs.Common.{◌≡◌, map, take, Bor}
use Rattle.pyd_tree.specs.declared.file.Func.{Func}
use Rattle.pyd_scope.specs.Rules as rule
use Rattle.pyd_scope.proofs.standing.functional.Given as goal

abbrev pub invariant-loop-func : goal.invariant-loop-func
invariant-loop-func l = l.made.items ≡ map (λ (f : Bor Func). rule.is_functional f.now) (take l.func-index l.func-items)
