use Rattle.std.proofs.Common.{None, ◌∙◌, ap, refl}
use Rattle.std.specs.Prelude.{option_map}
use Rattle.pyd_scope.specs.declared.refusals.Rule.TheVariants as rules
use Rattle.pyd_scope.specs.ByRule.{at_line}
use Rattle.pyd_scope.proofs.Firsts.{both}
use Rattle.pyd_scope.proofs.refusals.by_places.Goals as goal

pub returns : goal.returns
returns c =
    both c.or_else.result c.refused-returns.result _ c.or_else-second.result _ c.or_else.ensures (c.refused-returns.ensures ∙ ap (option_map (at_line rules.ReturnOutside)) c.return_outside-returned.ensures)
    (both c.or_else-second.result c.refused-breaks.result _ c.or_else-third.result _ c.or_else-second.ensures (c.refused-breaks.ensures ∙ ap (option_map (at_line rules.BreakOutside)) c.break_outside-broken.ensures)
    (both c.or_else-third.result c.refused-late.result _ c.or_else-fourth.result _ c.or_else-third.ensures (c.refused-late.ensures ∙ ap (option_map (at_line rules.LateDef)) c.late_def-late_line.ensures)
    (both c.or_else-fourth.result c.refused-computed.result _ None None c.or_else-fourth.ensures (c.refused-computed.ensures ∙ ap (option_map (at_line rules.NotConstant)) c.not_constant-computed_line.ensures)
    refl)))
