use Rattle.std.proofs.Common.{◌≡◌, map, take, Bor}
use Rattle.pyd_tree.specs.declared.file.Func.{Func}
use Rattle.pyd_scope.proofs.standing.function_names.Given as goal

abbrev pub invariant-loop-func : goal.invariant-loop-func
invariant-loop-func l = l.made ≡ map (λ (f : Bor Func). f.now.name) (take l.func-index l.func-items)
