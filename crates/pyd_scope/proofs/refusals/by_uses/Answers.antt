use Rattle.std.proofs.Common.{List, ◌∙◌, ap}
use Rattle.pyd_scope.specs.declared.sightings.Sighting.{Sighting}
use Rattle.pyd_scope.specs.ByRule.{misused}
use Rattle.pyd_scope.proofs.refusals.by_uses.Goals as goal

pub returns : goal.returns
returns c = c.misused.ensures ∙ ap (λ (ss : List Sighting). misused ss) (c.as_slice.ensures.value ∙ c.in_ok-sightings.ensures)
