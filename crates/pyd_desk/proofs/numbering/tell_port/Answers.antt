use Rattle.pyd_desk.proofs.Told.{set_told}
use Rattle.pyd_desk.proofs.numbering.tell_port.Goals as goal

pub returns-clause-told : goal.returns-clause-told
returns-clause-told c within k =
    set_told c.args.marks.now.items c.set_ports.new.marks.items c.args.node.now _ within
    (c.set_ports.ensures.set within) c.port_kind.ensures k
