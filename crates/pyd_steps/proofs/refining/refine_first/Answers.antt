use Rattle.pyd_steps.proofs.Refined.{refines_first}
use Rattle.pyd_steps.proofs.refining.refine_first.Goals as goal

pub returns-in_ok-refine-in-Some-clause-refines : goal.returns-in_ok-refine-in-Some-clause-refines
returns-in_ok-refine-in-Some-clause-refines c =
    refines_first c.args.core.now c.refine.new.self c.args.seat c.in-Some.at c.requires.no_settle
    c.in-Some.ensures c.in_ok-refine-in-Some.ensures.ok
