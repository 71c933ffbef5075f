use Rattle.std.proofs.Common.{None, ◌∙◌, ap, refl}
use Rattle.std.specs.Prelude.{option_map}
use Rattle.pyd_scope.specs.declared.refusals.Rule.TheVariants as rules
use Rattle.pyd_scope.specs.ByRule.{at_line}
use Rattle.pyd_scope.proofs.Firsts.{both}
use Rattle.pyd_scope.proofs.refusals.misused.Goals as goal

pub returns : goal.returns
returns c =
    both c.or_else.result c.refused-value.result _ c.or_else-second.result _ c.or_else.ensures (c.refused-value.ensures ∙ ap (option_map (at_line rules.FunctionValue)) c.misused_line-value_line.ensures)
    (both c.or_else-second.result c.refused-call.result _ c.or_else-third.result _ c.or_else-second.ensures (c.refused-call.ensures ∙ ap (option_map (at_line rules.CallOfVariable)) c.misused_line-call_line.ensures)
    (both c.or_else-third.result c.refused-read.result _ c.or_else-fourth.result _ c.or_else-third.ensures (c.refused-read.ensures ∙ ap (option_map (at_line rules.GlobalRead)) c.misused_line-read_line.ensures)
    (both c.or_else-fourth.result c.refused-impure.result _ None None c.or_else-fourth.ensures (c.refused-impure.ensures ∙ ap (option_map (at_line rules.Impure)) c.misused_line-impure_line.ensures)
    refl)))
