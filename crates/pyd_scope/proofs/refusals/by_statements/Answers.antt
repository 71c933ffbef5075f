use Rattle.std.proofs.Common.{None, ◌∙◌, ap, sym, refl}
use Rattle.std.specs.Prelude.{option_map}
use Rattle.pyd_scope.specs.declared.refusals.Rule.TheVariants as rules
use Rattle.pyd_scope.specs.ByRule.{at_line}
use Rattle.pyd_scope.specs.Checks as spec
use Rattle.pyd_scope.proofs.Firsts.{both, first-append}
use Rattle.pyd_scope.proofs.refusals.by_statements.Goals as goal

pub returns : goal.returns
returns c =
    both c.or_else-all.result c.by_places.result (spec.first (spec.by_places c.args.file.now)) c.or_else-fifth.result (spec.first (spec.by_heads c.args.file.now)) c.or_else-all.ensures c.by_places.ensures
    (both c.or_else-fifth.result c.refused-marks.result _ c.or_else-sixth.result _ c.or_else-fifth.ensures (c.refused-marks.ensures ∙ ap (option_map (at_line rules.Decorator)) c.in_ok-marked.ensures)
    (both c.or_else-sixth.result c.refused-parameters.result _ None None c.or_else-sixth.ensures (c.refused-parameters.ensures ∙ ap (option_map (at_line rules.TwiceParameter)) c.in_ok-doubled.ensures)
    refl))
    ∙ sym (first-append (spec.by_places c.args.file.now) (spec.by_heads c.args.file.now))
