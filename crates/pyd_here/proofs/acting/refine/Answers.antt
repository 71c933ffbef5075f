use Rattle.std.proofs.Common.{◌≡◌, subst}
use Rattle.std.specs.List.{slice_get}
use Rattle.pyd_board.specs.declared.event.Act.TheVariants.{Refine}
use Rattle.pyd_runs.specs.Records.{node_at}
use Rattle.pyd_core.specs.Refining.{RefinesAt}
use Rattle.pyd_here.specs.Going.{MakesHere}
use Rattle.pyd_here.proofs.Makes.{on_ok, refinable, refines_here}
use Rattle.pyd_here.proofs.acting.refine.Goals as goal

pub refine-requires-clause-may : goal.refine-requires-clause-may
refine-requires-clause-may c =
    refinable c.args.core.now c.requires.core c.args.node c.place_of-at.result c.requires.may
    (subst (λ ns. slice_get ns c.place_of-at.result ≡ node_at ns c.args.node) c.chain.ensures
    c.place_of-at.ensures)

pub returns-clause-ok : goal.returns-clause-ok
returns-clause-ok c =
    let old = c.args.core.now in
    let new = c.refine.new.self in
    on_ok c.refine.result (RefinesAt old new c.own_seat-seat.result c.place_of-at.result)
    (MakesHere old new (Refine c.args.node))
    (refines_here old c.requires.core c.args.node c.place_of-at.result c.requires.may
    (subst (λ ns. slice_get ns c.place_of-at.result ≡ node_at ns c.args.node) c.chain.ensures
    c.place_of-at.ensures)
    new c.own_seat-seat.result c.own_seat-seat.ensures.seat)
    c.refine.ensures.ok
