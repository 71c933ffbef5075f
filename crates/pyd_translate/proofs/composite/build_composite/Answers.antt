use Rattle.pyd_translate.proofs.StatementFlows.{early_made, late_made}
use Rattle.pyd_translate.proofs.composite.build_composite.Goals as goal

pub returns-in_ok-value-in-Ok : goal.returns-in_ok-value-in-Ok
returns-in_ok-value-in-Ok c =
    λ leave next. early_made c.args.at.now c.args.composite c.args.control _ _ _ _ _ _ leave next _ _
    c.if-at.true c.in-Ok.ensures c.in_ok-value-in-Ok.ensures

pub returns-in_ok-take_ports : goal.returns-in_ok-take_ports
returns-in_ok-take_ports c =
    λ leave next. late_made c.args.at.now c.args.composite c.args.control _ _ _ _ _ _ leave next _ _
    c.if-at.false c.new-rest.ensures (rw c.as_slice.ensures.value at c.in_ok-id.ensures) c.in_ok-take_ports.ensures.slots
