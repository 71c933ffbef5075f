use Rattle.std.proofs.Common.{option_map, vec_capacity, vec_len, ap, sym, ◌∙◌}
use Rattle.pyd_steps.proofs.AllPlaced.{placed_in_row}
use Rattle.pyd_steps.proofs.Asked.{asks_same, asks_still}
use Rattle.pyd_steps.proofs.InTurn.{first_turn, not_empty, ticket_room, turn_driver, turn_left_out, turn_placed, turn_room, turn_seat, turn_wanted}
use Rattle.pyd_steps.proofs.Row.{RowLaws, all_left}
use Rattle.pyd_steps.proofs.placing.place_all.Goals as goal
use Rattle.pyd_steps.proofs.placing.place_all.Goals.{then-stays_placeable, else-stays_placeable}

pub returns-in_err-numbers-clause-asks : goal.returns-in_err-numbers-clause-asks
returns-in_err-numbers-clause-asks g c = asks_same c.args.core.now _

pub returns-then-is_empty-clause-asks : goal.returns-then-is_empty-clause-asks
returns-then-is_empty-clause-asks g c = asks_same c.args.core.now _

pub returns-in_err-tickets-clause-asks : goal.returns-in_err-tickets-clause-asks
returns-in_err-tickets-clause-asks g c = asks_same c.args.core.now _

pub returns-in_err-make_room-clause-asks : goal.returns-in_err-make_room-clause-asks
returns-in_err-make_room-clause-asks g c =
    asks_still c.args.core.now c.make_room.new.self _ c.make_room.ensures.stays

pub loop-node-init : goal.loop-node-init
loop-node-init g c =
    first_turn (record {
      beginning = c.beginning_law.ensures;
      step = c.step_law.ensures;
      next = c.next_law.ensures;
      wanted = c.wanted_law.ensures;
    }) c.args.seat c.as_slice-node-items.result.now c.in_ok-numbers.numbers.items
    c.args.core.now c.make_room.new.self c.in_ok-tickets.tickets.items _ _ c.len-2.result
    c.len.result _ c.as_slice-node-items.ensures.value c.in_ok-tickets.ensures.items
    c.in_ok-tickets.ensures.len c.requires.quiet c.make_room.ensures.stays
    c.in_ok-numbers.ensures.rising c.in_ok-numbers.ensures.all c.in_ok-make_room.ensures.room
    (c.len-2.ensures ∙ sym c.as_slice-node-items.ensures.len)
    (c.len.ensures ∙ sym c.as_slice-node-items.ensures.len)
    c.in_ok-tickets.ensures.capacity

pub stays_placeable-requires-clause-core : goal.stays_placeable-requires-clause-core
stays_placeable-requires-clause-core g c = c.loop-node.invariant.placed.comes.core

pub stays_placeable-requires-clause-goes_on : goal.stays_placeable-requires-clause-goes_on
stays_placeable-requires-clause-goes_on g c = c.loop-node.invariant.placed.goes_on

pub stays_placeable-requires-clause-wanted : goal.stays_placeable-requires-clause-wanted
stays_placeable-requires-clause-wanted g c =
    turn_wanted c.args.seat c.as_slice-node-items.result.now c.loop-node.node-index c.args.core.now
    c.loop-node.core c.loop-node.tickets.items _ _ _ _ c.loop-node-test.true c.loop-node.invariant

pub place_next-requires-clause-core : goal.place_next-requires-clause-core
place_next-requires-clause-core g c = c.loop-node.invariant.placed.comes.core

pub place_next-requires-clause-seat : goal.place_next-requires-clause-seat
place_next-requires-clause-seat g c =
    turn_seat c.args.seat c.as_slice-node-items.result.now c.loop-node.node-index c.args.core.now
    c.loop-node.core c.loop-node.tickets.items _ _ _ _ c.loop-node-test.true c.loop-node.invariant
    c.requires.seat

pub place_next-requires-clause-driver : goal.place_next-requires-clause-driver
place_next-requires-clause-driver g c =
    turn_driver c.args.seat c.as_slice-node-items.result.now c.loop-node.node-index c.args.core.now
    c.loop-node.core c.loop-node.tickets.items _ _ _ _ c.loop-node-test.true c.loop-node.invariant
    (record {
      beginning = c.beginning_law.ensures;
      step = c.step_law.ensures;
      next = c.next_law.ensures;
      wanted = c.wanted_law.ensures;
    }) c.requires.quiet

pub place_next-requires-clause-goes_on : goal.place_next-requires-clause-goes_on
place_next-requires-clause-goes_on g c = c.loop-node.invariant.placed.goes_on

pub place_next-requires-clause-room : goal.place_next-requires-clause-room
place_next-requires-clause-room g c =
    turn_room c.args.seat c.as_slice-node-items.result.now c.loop-node.node-index c.args.core.now
    c.loop-node.core c.loop-node.tickets.items _ _ _ _ c.loop-node-test.true c.loop-node.invariant

pub push_reserved-requires : goal.push_reserved-requires
push_reserved-requires g c =
    ticket_room c.args.seat c.as_slice-node-items.result.now c.loop-node.node-index c.args.core.now
    c.loop-node.core c.loop-node.tickets.items _ _ _ _ c.loop-node-test.true c.loop-node.invariant

pub loop-node-preserved : goal.loop-node-preserved
loop-node-preserved g c =
    let laws : RowLaws = record {
      beginning = c.beginning_law.ensures;
      step = c.step_law.ensures;
      next = c.next_law.ensures;
      wanted = c.wanted_law.ensures;
    } in
    elim c.if-stays_placeable.branch [
      | then-stays_placeable w ↦
          turn_placed c.args.seat c.as_slice-node-items.result.now c.loop-node.node-index c.args.core.now
          c.loop-node.core c.loop-node.tickets.items _ _ _ _ c.loop-node-test.true c.loop-node.invariant
          laws c.requires.quiet w.place_next.new.core c.if-stays_placeable.core
          w.place_next.result c.if-stays_placeable.tickets.items _ _ _ _ w.core-is
          (ap (λ v. v.items) w.tickets-is ∙ w.push_reserved.ensures.items)
          (ap vec_len w.tickets-is ∙ w.push_reserved.ensures.len)
          (ap vec_capacity w.tickets-is ∙ w.push_reserved.ensures.capacity)
          (ap (option_map (λ b. (goal.Placer-dyn g (b.vtable, b.value)).calls b.value)) w.placer-is)
          w.place_next.ensures.places w.place_next.ensures.room w.place_next.ensures.asks
      | else-stays_placeable w ↦
          turn_left_out c.args.seat c.as_slice-node-items.result.now c.loop-node.node-index c.args.core.now
          c.loop-node.core c.loop-node.tickets.items _ _ _ _ c.loop-node-test.true c.loop-node.invariant
          laws c.requires.quiet c.if-stays_placeable.core c.if-stays_placeable.tickets.items _ _ _
          c.stays_placeable.result w.core-is (ap (λ v. v.items) w.tickets-is)
          (ap vec_len w.tickets-is) (ap vec_capacity w.tickets-is)
          (ap (option_map (λ b. (goal.Placer-dyn g (b.vtable, b.value)).calls b.value)) w.placer-is)
          c.stays_placeable.ensures w.if-stays_placeable.false
    ]

pub returns-clause-places : goal.returns-clause-places
returns-clause-places g c =
    let ks = c.as_slice-node-items.result.now in
    placed_in_row (record {
      journal = c.journal_law.ensures;
      step = c.step_law.ensures;
      run = c.run_law.ensures;
      place = c.place_test_law.ensures;
    }) c.args.core.now c.args.seat (record {
      core = c.requires.core;
      quiet = c.requires.quiet;
      is_seat = c.requires.seat;
      no_settle = c.requires.no_settle;
      no_refine = c.requires.no_refine;
    }) c.loop-node.core ks c.loop-node.tickets.items
    (all_left c.args.seat ks c.loop-node.node-index c.args.core.now c.loop-node.core
    c.loop-node.tickets.items c.loop-node-test.false c.loop-node.invariant.placed)
    (not_empty ks _ c.is_empty.result c.is_empty.ensures c.if-is_empty.false
    c.as_slice-node-items.ensures.len)

pub returns-clause-asks : goal.returns-clause-asks
returns-clause-asks g c = c.loop-node.invariant.asks
