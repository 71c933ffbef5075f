use Rattle.pyd_translate.specs.Flows.{composite_at, header_at}
use Rattle.pyd_translate.proofs.StatementFlows.{flows_then, then_none}
use Rattle.pyd_translate.proofs.statements.build_headed.Goals as goal

pub returns-in-Some : goal.returns-in-Some
returns-in-Some c =
    flows_then _ _ _ _ _ _ _ c.args.at.now.rest.now c.args.env.now.items _
    (header_at c.args.at.now c.args.e.now c.args.env.now.items) _
    (λ sequel control. composite_at c.args.at.now c.args.composite control c.args.env.now.items sequel)
    (rw (c.in-Some.is, c.as_slice.ensures.value) at c.in_ok-control.ensures) c.build_composite.ensures

pub returns-in-None : goal.returns-in-None
returns-in-None c =
    λ leave next. then_none _ _ _ _ _ _ _ (rw (c.in-None.is, c.as_slice.ensures.value) at c.in_ok-control.ensures)
