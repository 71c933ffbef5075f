use Rattle.std.proofs.Common.{suc, drop, length, ap, ◌∙◌}
use Rattle.pyd_runs.specs.Deciding.{may_place}
use Rattle.pyd_core.specs.Cores.{state_of}
use Rattle.pyd_core.specs.Losing.{losses_by}
use Rattle.pyd_steps.proofs.NextPlace.{first_entries, next_asks, next_place, quiet_then, state_by}
use Rattle.pyd_steps.proofs.placing.place_next.Goals as goal

pub place-requires-clause-room : goal.place-requires-clause-room
place-requires-clause-room g c = c.lose_due.ensures.room 1 c.requires.room

pub place-requires-clause-quiet : goal.place-requires-clause-quiet
place-requires-clause-quiet g c =
    quiet_then c.beginning_law.ensures c.args.core.now c.lose_due.new.self c.args.seat
    c.lose_due.ensures.losses c.requires.goes_on c.lose_due.ensures.none_due

pub place-requires-clause-may : goal.place-requires-clause-may
place-requires-clause-may g c =
    ap (λ s. may_place s c.args.node)
    (state_by c.beginning_law.ensures c.args.core.now c.lose_due.new.self
    (losses_by c.args.seat (state_of c.args.core.now)) c.lose_due.ensures.losses)
    ∙ c.requires.may

pub returns-clause-places : goal.returns-clause-places
returns-clause-places g c =
    next_place c.args.core.now c.lose_due.new.self c.place.new.self c.args.seat c.args.node _ _ _
    c.lose_due.ensures.losses c.place.ensures.makes c.place.ensures.ticket

pub returns-clause-room : goal.returns-clause-room
returns-clause-room g c n room = c.place.ensures.room n (c.lose_due.ensures.room (suc n) room)

pub returns-clause-asks : goal.returns-clause-asks
returns-clause-asks g c =
    let old = c.args.core.now in
    let lost = c.lose_due.new.self in
    next_asks old lost c.place.new.self c.args.seat c.args.node _ c.choose-machine.result _ _ _ _
    c.beginning_law.ensures c.lose_due.ensures.losses
    (c.entries_from.ensures
    ∙ ap (drop (length c.as_slice-before.result.now)) c.as_slice.ensures.value
    ∙ ap (λ n. drop n lost.log.journal.items) (ap length c.as_slice-before.ensures.value))
    c.tell.ensures c.place.ensures.makes c.choose-machine.ensures.asks

pub entries_from-requires : goal.entries_from-requires
entries_from-requires g c =
    first_entries c.args.core.now c.lose_due.new.self _ _ _ c.lose_due.ensures.losses
    (ap length c.as_slice-before.ensures.value) (ap length c.as_slice.ensures.value)
