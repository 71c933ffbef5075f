use Rattle.pyd_board.specs.declared.event.Act.TheVariants.{Claim, Drop, Finish, Place, Refine, Trim}
use Rattle.pyd_core.specs.Placing.{next_attempt_of}
use Rattle.pyd_here.proofs.Keeps.{place_other, refine_other, trim_other}
use Rattle.pyd_here.proofs.Makes.{makes_here, makes_silent, place_is, place_may, settled_here}
use Rattle.pyd_here.proofs.making.make.Goals as goal

pub place-requires-clause-may : goal.place-requires-clause-may
place-requires-clause-may g c =
    place_may (record {
      run = c.run_law.ensures;
      step = c.step_law.ensures;
      hold = c.hold_law.ensures;
      take = c.take_law.ensures;
    }) c.place_test_law.ensures c.args.core.now c.args.act
    c.in-Place.node c.in-Place.field-1 c.in-Place.machine c.requires.here.is_core c.in-Place.is
    c.requires.may

pub returns-in-Place-clause-ok : goal.returns-in-Place-clause-ok
returns-in-Place-clause-ok g c =
    makes_silent (record {
      run = c.run_law.ensures;
      step = c.step_law.ensures;
      hold = c.hold_law.ensures;
      take = c.take_law.ensures;
    }) c.output_law.ensures c.args.core.now c.place.new.core c.args.act
    (Place c.in-Place.node (next_attempt_of c.args.core.now c.in-Place.node) c.in-Place.machine) (place_is c.args.core.now c.args.act c.in-Place.node c.in-Place.field-1 c.in-Place.machine
    c.in-Place.is c.requires.may) c.place.ensures
    (λ none. none) _

pub returns-in-Ok-clause-ok : goal.returns-in-Ok-clause-ok
returns-in-Ok-clause-ok g c =
    makes_silent (record {
      run = c.run_law.ensures;
      step = c.step_law.ensures;
      hold = c.hold_law.ensures;
      take = c.take_law.ensures;
    }) c.output_law.ensures c.args.core.now c.claim.new.core c.args.act
    (Claim c.in-Claim.node c.in-Claim.attempt c.in-Claim.machine) c.in-Claim.is c.in-Ok.ensures.ok
    (λ none. none) _

pub returns-in-Ok-finish-clause-ok : goal.returns-in-Ok-finish-clause-ok
returns-in-Ok-finish-clause-ok g c =
    makes_silent (record {
      run = c.run_law.ensures;
      step = c.step_law.ensures;
      hold = c.hold_law.ensures;
      take = c.take_law.ensures;
    }) c.output_law.ensures c.args.core.now c.finish.new.core c.args.act
    (Finish c.in-Finish.node c.in-Finish.attempt c.in-Finish.machine) c.in-Finish.is c.in-Ok-finish.ensures.ok
    (λ none. none) _

pub returns-in-Drop-clause-ok : goal.returns-in-Drop-clause-ok
returns-in-Drop-clause-ok g c =
    makes_silent (record {
      run = c.run_law.ensures;
      step = c.step_law.ensures;
      hold = c.hold_law.ensures;
      take = c.take_law.ensures;
    }) c.output_law.ensures c.args.core.now c.let_go.new.core c.args.act
    (Drop c.in-Drop.node c.in-Drop.attempt c.in-Drop.machine) c.in-Drop.is c.let_go.ensures.makes
    (λ none. none) _

pub returns-in-Ok-refine-clause-ok : goal.returns-in-Ok-refine-clause-ok
returns-in-Ok-refine-clause-ok g c =
    makes_silent (record {
      run = c.run_law.ensures;
      step = c.step_law.ensures;
      hold = c.hold_law.ensures;
      take = c.take_law.ensures;
    }) c.output_law.ensures c.args.core.now c.refine.new.core c.args.act
    (Refine c.in-Refine.node) c.in-Refine.is c.in-Ok-refine.ensures.ok
    (λ none. none) _

pub returns-in-Trim-clause-ok : goal.returns-in-Trim-clause-ok
returns-in-Trim-clause-ok g c =
    makes_silent (record {
      run = c.run_law.ensures;
      step = c.step_law.ensures;
      hold = c.hold_law.ensures;
      take = c.take_law.ensures;
    }) c.output_law.ensures c.args.core.now c.trim.new.core c.args.act
    (Trim c.in-Trim.node) c.in-Trim.is c.trim.ensures
    (λ none. none) _

pub returns-in-Place-clause-here : goal.returns-in-Place-clause-here
returns-in-Place-clause-here g c =
    makes_here (record {
      run = c.run_law.ensures;
      step = c.step_law.ensures;
      hold = c.hold_law.ensures;
      take = c.take_law.ensures;
    }) c.output_law.ensures c.args.core.now c.place.new.core c.args.act
    (Place c.in-Place.node (next_attempt_of c.args.core.now c.in-Place.node) c.in-Place.machine) (place_is c.args.core.now c.args.act c.in-Place.node c.in-Place.field-1 c.in-Place.machine
    c.in-Place.is c.requires.may) c.place.ensures
    (place_other _ _ _) (λ none. none) c.args.jobs.now.items c.requires.here

pub returns-in-Ok-refine-clause-here : goal.returns-in-Ok-refine-clause-here
returns-in-Ok-refine-clause-here g c =
    makes_here (record {
      run = c.run_law.ensures;
      step = c.step_law.ensures;
      hold = c.hold_law.ensures;
      take = c.take_law.ensures;
    }) c.output_law.ensures c.args.core.now c.refine.new.core c.args.act
    (Refine c.in-Refine.node) c.in-Refine.is c.in-Ok-refine.ensures.ok
    (refine_other _) (λ none. none) c.args.jobs.now.items c.requires.here

pub returns-in-Trim-clause-here : goal.returns-in-Trim-clause-here
returns-in-Trim-clause-here g c =
    makes_here (record {
      run = c.run_law.ensures;
      step = c.step_law.ensures;
      hold = c.hold_law.ensures;
      take = c.take_law.ensures;
    }) c.output_law.ensures c.args.core.now c.trim.new.core c.args.act
    (Trim c.in-Trim.node) c.in-Trim.is c.trim.ensures
    (trim_other _) (λ none. none) c.args.jobs.now.items c.requires.here

pub returns-in-Settle-clause-here : goal.returns-in-Settle-clause-here
returns-in-Settle-clause-here g c =
    settled_here (record {
      run = c.run_law.ensures;
      step = c.step_law.ensures;
      hold = c.hold_law.ensures;
      take = c.take_law.ensures;
    }) c.output_law.ensures c.args.core.now c.settle.new.core c.args.act
    c.in-Settle.node c.in-Settle.is c.args.jobs.now.items c.requires.here _ _ c.settle.result
    c.settle.ensures.ok
