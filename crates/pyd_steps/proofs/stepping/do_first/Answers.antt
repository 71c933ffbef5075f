use Rattle.pyd_steps.proofs.Joined.{none_settles_still}
use Rattle.pyd_steps.proofs.Asked.{asks_still}
use Rattle.pyd_steps.proofs.StepAsked.{all_behind, failed_asks, settled_told}
use Rattle.pyd_steps.proofs.Stepped.{then_first, waits_is}
use Rattle.pyd_steps.proofs.stepping.do_first.Goals as goal

pub refine_or_place-requires-clause-no_settle : goal.refine_or_place-requires-clause-no_settle
refine_or_place-requires-clause-no_settle g c =
    let waits = waits_is c.args.core.now c.settle_and_trim.new.core c.args.who.seat _ _
    c.in_ok-settle_and_trim.field-0 c.in-Waits.is c.in_ok-settle_and_trim.ensures.moves in
    none_settles_still c.args.core.now c.settle_and_trim.new.core waits.stays waits.none

pub returns-in-Waits-clause-does : goal.returns-in-Waits-clause-does
returns-in-Waits-clause-does g c =
    then_first c.args.core.now c.settle_and_trim.new.core c.refine_or_place.new.core c.args.who _ _
    c.in_ok-settle_and_trim.field-0 c.refine_or_place.result
    c.in_ok-settle_and_trim.ensures.moves c.in-Waits.is c.refine_or_place.ensures.does

pub returns-in_err-settle_and_trim-clause-asks : goal.returns-in_err-settle_and_trim-clause-asks
returns-in_err-settle_and_trim-clause-asks g c =
    asks_still c.args.core.now c.settle_and_trim.new.core _
    c.in_err-settle_and_trim.ensures.memory

pub returns-in-Settled-clause-asks : goal.returns-in-Settled-clause-asks
returns-in-Settled-clause-asks g c =
    settled_told c.args.core.now c.settle_and_trim.new.core _ _ c.args.who.seat _ _
    c.in_ok-settle_and_trim.field-0 c.in_ok-settle_and_trim.ensures.moves c.in-Settled.is _
    (all_behind c.args.core.now.log.journal c.settle_and_trim.new.core.log.journal.items
    c.deref.result.now c.len-before.result c.deref.ensures.value
    c.len-before.ensures)
    c.tell.ensures

pub returns-in-SinkFault-clause-asks : goal.returns-in-SinkFault-clause-asks
returns-in-SinkFault-clause-asks g c =
    failed_asks c.args.core.now c.settle_and_trim.new.core _ c.args.who.seat _ _
    c.in_ok-settle_and_trim.field-0 c.in_ok-settle_and_trim.ensures.moves c.in-SinkFault.is
