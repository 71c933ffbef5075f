use Rattle.pyd_translate.proofs.StatementFlows.{last_returned}
use Rattle.pyd_translate.proofs.composite.build_last.Goals as goal

pub returns : goal.returns
returns c =
    last_returned c.args.at.now c.args.composite c.args.control _ _ _ _ _ _ _ c.args.rest _
    (rw c.as_slice.ensures.value at c.in_ok-id.ensures) c.take_ports.ensures.slots c.take_ports.ensures.value
