use Rattle.pyd_steps.proofs.Asked.{asks_still}
use Rattle.pyd_steps.proofs.Joined.{none_refinable_still, none_settles_still}
use Rattle.pyd_steps.proofs.Results.{when_false, when_none, when_some, when_true}
use Rattle.pyd_steps.proofs.StepAsked.{refined_asks}
use Rattle.pyd_steps.proofs.Stepped.{nothing_next, placed_next, refined_next}
use Rattle.pyd_steps.proofs.stepping.refine_or_place.Goals as goal

pub returns-then-branch-clause-does : goal.returns-then-branch-clause-does
returns-then-branch-clause-does g c =
    refined_next c.output_law.ensures c.beginning_law.ensures c.args.core.now
    c.refine_first.new.core c.args.who c.new.result
    (when_true c.in_ok-refine_first.field-0 _ _ c.if-branch.true
    c.in_ok-refine_first.ensures.refines) c.new.ensures.items

pub place_all-requires-clause-no_settle : goal.place_all-requires-clause-no_settle
place_all-requires-clause-no_settle g c =
    let none = when_false c.in_ok-refine_first.field-0 _ _ c.if-branch.false
    c.in_ok-refine_first.ensures.refines in
    none_settles_still c.args.core.now c.refine_first.new.core none.stays c.requires.no_settle

pub place_all-requires-clause-no_refine : goal.place_all-requires-clause-no_refine
place_all-requires-clause-no_refine g c =
    let none = when_false c.in_ok-refine_first.field-0 _ _ c.if-branch.false
    c.in_ok-refine_first.ensures.refines in
    none_refinable_still c.args.core.now c.refine_first.new.core none.stays none.none

pub returns-in-Some-clause-does : goal.returns-in-Some-clause-does
returns-in-Some-clause-does g c =
    let none = when_false c.in_ok-refine_first.field-0 _ _ c.if-branch.false
    c.in_ok-refine_first.ensures.refines in
    placed_next c.output_law.ensures c.beginning_law.ensures c.args.core.now
    c.place_all.new.core c.args.who c.in-Some.tickets c.refine_first.new.core none.stays
    (when_some c.in_ok-tickets.field-0 _ _ c.in-Some.tickets c.in-Some.is
    c.in_ok-tickets.ensures.places)

pub returns-in-None-clause-does : goal.returns-in-None-clause-does
returns-in-None-clause-does g c =
    let none = when_false c.in_ok-refine_first.field-0 _ _ c.if-branch.false
    c.in_ok-refine_first.ensures.refines in
    nothing_next c.place_test_law.ensures c.run_law.ensures c.args.core.now
    c.refine_first.new.core c.place_all.new.core c.args.who c.requires.core c.requires.no_settle
    none (when_none c.in_ok-tickets.field-0 _ _ c.in-None.is c.in_ok-tickets.ensures.places)

pub returns-in_err-refine_first-clause-asks : goal.returns-in_err-refine_first-clause-asks
returns-in_err-refine_first-clause-asks g c =
    asks_still c.args.core.now c.refine_first.new.core _ c.in_err-refine_first.ensures.memory

pub returns-then-branch-clause-asks : goal.returns-then-branch-clause-asks
returns-then-branch-clause-asks g c =
    refined_asks c.args.core.now c.refine_first.new.core _ c.args.who.seat
    (when_true c.in_ok-refine_first.field-0 _ _ c.if-branch.true
    c.in_ok-refine_first.ensures.refines)
