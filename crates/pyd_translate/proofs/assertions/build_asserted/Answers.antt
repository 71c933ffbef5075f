use Rattle.pyd_translate.proofs.BindingFlows.{raised_made}
use Rattle.pyd_translate.proofs.assertions.build_asserted.Goals as goal

pub returns-in_ok-operator-in-Ok : goal.returns-in_ok-operator-in-Ok
returns-in_ok-operator-in-Ok c =
    raised_made c.args.at.now c.args.test.now c.args.message.now c.args.value c.args.env.now _ _ _ _ _
    c.in-Ok.ensures c.in_ok-args-in-Ok.ensures (rw c.context.ensures.context at c.in_ok-operator-in-Ok.ensures)
