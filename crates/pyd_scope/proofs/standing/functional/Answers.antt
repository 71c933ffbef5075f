use Rattle.std.proofs.Common.{List, map, ◌∙◌, ap, Bor}
use Rattle.std.proofs.lemmas.List.{take_all}
use Rattle.pyd_tree.specs.declared.file.Func.{Func}
use Rattle.pyd_names.specs.Binding.{functions}
use Rattle.pyd_scope.specs.Rules as rule
use Rattle.pyd_scope.proofs.Outsides.{map-now}
use Rattle.pyd_scope.proofs.standing.functional.Goals as goal

pub returns : goal.returns
returns c =
    c.loop-func.invariant
    ∙ ap (λ (fs : List (Bor Func)). map (λ (f : Bor Func). rule.is_functional f.now) fs) (take_all c.loop-func.func-index c.deref-func-items.result.now c.loop-func-test.false)
    ∙ map-now rule.is_functional c.deref-func-items.result.now (functions c.args.file.now)
    (ap (λ (fs : List (Bor Func)). map (λ f. f.now) fs) c.deref-func-items.ensures.value ∙ c.in_ok-funcs.ensures)
