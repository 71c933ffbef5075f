use Rattle.std.proofs.Common.{List, [], None, ◌∙◌, ap, refl}
use Rattle.std.specs.Prelude.{option_map}
use Rattle.pyd_names.specs.declared.binding.Binding.{Binding}
use Rattle.pyd_scope.specs.declared.refusals.Rule.TheVariants as rules
use Rattle.pyd_scope.specs.ByRule.{at_line}
use Rattle.pyd_scope.specs.Least.{least}
use Rattle.pyd_scope.specs.Rules as rule
use Rattle.pyd_scope.proofs.Firsts.{both}
use Rattle.pyd_scope.proofs.refusals.by_bindings.Goals as goal

pub returns : goal.returns
returns c =
    both c.or_else-all.result c.refused-twice.result _ c.or_else-last.result _ c.or_else-all.ensures
    (c.refused-twice.ensures ∙ ap (option_map (at_line rules.TwiceDefined))
    (c.in_ok-repeated.ensures ∙ ap (λ (ds : List Binding). least (rule.repeats [] ds)) (c.as_slice.ensures ∙ c.in_ok-definitions.ensures)))
    (both c.or_else-last.result c.refused-binds.result _ None None c.or_else-last.ensures
    (c.refused-binds.ensures ∙ ap (option_map (at_line rules.Rebind)) c.in_ok-rebound.ensures) refl)
