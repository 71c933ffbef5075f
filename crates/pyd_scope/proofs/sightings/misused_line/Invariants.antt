use Rattle.std.proofs.Common.{◌≡◌, drop}
use Rattle.pyd_scope.specs.Least.{least, lesser}
use Rattle.pyd_scope.specs.Rules as rule
use Rattle.pyd_scope.specs.UseRules as use_rule
use Rattle.pyd_scope.proofs.sightings.misused_line.Given as goal

abbrev pub invariant-loop-sighting : goal.invariant-loop-sighting
invariant-loop-sighting l =
    least (rule.seen_where (use_rule.is_broken_by l.by) l.sightings)
    ≡ lesser l.line (least (rule.seen_where (use_rule.is_broken_by l.by) (drop l.sighting-index l.sightings)))
