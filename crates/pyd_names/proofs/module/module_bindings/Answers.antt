use Rattle.std.proofs.Common.{sym, ap, ◌∙◌}
use Rattle.std.specs.List.{flat_map}
use Rattle.pyd_names.specs.Binding.{statement_bindings}
use Rattle.pyd_names.proofs.Lists.{all_walked, flat_map-map}
use Rattle.pyd_names.proofs.module.module_bindings.Goals as goal

pub returns : goal.returns
returns c =
    all_walked (λ s. statement_bindings s.now) c.deref-stmt-items.result.now _ _ _ c.loop-stmt-test.false c.loop-stmt.invariant
    ∙ ap (flat_map (λ s. statement_bindings s.now)) c.deref-stmt-items.ensures.value
    ∙ sym (flat_map-map (λ s. s.now) statement_bindings c.in_ok-statements.statements.items)
    ∙ ap (flat_map statement_bindings) c.in_ok-statements.ensures
