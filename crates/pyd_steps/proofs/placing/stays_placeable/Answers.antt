use Rattle.std.proofs.Common.{true, false, ap, sym, refl, ◌∙◌}
use Rattle.pyd_runs.specs.Records.{node_at}
use Rattle.pyd_steps.specs.Placing.{machines_due, outlasts, stays_ready}
use Rattle.pyd_steps.proofs.Spared.{both_tests}
use Rattle.pyd_steps.proofs.placing.stays_placeable.Goals as goal

pub returns-then-may_place : goal.returns-then-may_place
returns-then-may_place c seat =
    let core = c.args.core.now in
    both_tests c.journal_law.ensures c.wanted_law.ensures core c.requires.core c.args.node seat
    c.requires.goes_on c.requires.wanted true c.stays_ready.result
    (sym c.if-may_place.true ∙ c.may_place.ensures)
    (c.stays_ready.ensures
    ∙ ap (stays_ready (outlasts core (machines_due core)))
    (c.find.ensures ∙ ap (λ ns. node_at ns c.args.node) c.as_slice.ensures.value))

pub returns-else-may_place : goal.returns-else-may_place
returns-else-may_place c seat =
    let core = c.args.core.now in
    c.if-may_place.false
    ∙ both_tests c.journal_law.ensures c.wanted_law.ensures core c.requires.core c.args.node seat
    c.requires.goes_on c.requires.wanted false
    (stays_ready (outlasts core (machines_due core)) (node_at core.line.nodes.items c.args.node))
    (sym c.if-may_place.false ∙ c.may_place.ensures) refl
