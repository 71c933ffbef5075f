use Rattle.std.proofs.Common.{◌≡◌, ◌<◌, ℕ, List, length, get_or, if◌then◌else◌, set, true, ap, ◌∙◌, arith}
use Rattle.std.proofs.lemmas.Grind.{common_steps}
use Rattle.pyd_ir.specs.declared.node.Node.{Node}
use Rattle.pyd_desk.specs.declared.desk.Desk.{Desk}
use Rattle.pyd_desk.specs.Desks.{mark_at}
use Rattle.pyd_desk.specs.Lines.{chain_of}
use Rattle.pyd_desk.specs.Reading.{given_of}
use Rattle.pyd_desk.specs.Tickets.{is_ready_in, live_mark}
use Rattle.pyd_desk.proofs.Dying.{next_rid}
use Rattle.pyd_desk.proofs.desk.Desk.drop_tickets.Goals as goal

pub loop-node-preserved : goal.loop-node-preserved
loop-node-preserved c =
    let nodes : List Node = c.args.line.now.nodes.items in
    let n : Node = c.node-item.result in
    let i : ℕ = c.loop-node.node-index in
    let now : Desk = c.loop-node.self in
    let within : i < length nodes =
    grind (arith, common_steps, c.loop-node-test.true, c.deref-node-items.ensures.value) in
    let is : n ≡ get_or nodes i n =
    grind (arith, common_steps, c.node-item.is, c.deref-node-items.ensures.value) in
    next_rid (chain_of c.args.line.now) nodes i n c.args.self.now now c.check_ticket.new.self c.loop-node.invariant
    within is c.requires.numbered
    (c.check_ticket.ensures.marks
    ∙ ap (λ chain. if is_ready_in chain (given_of now) n then now.marks.items
    else set now.marks.items n.id (live_mark true (mark_at now.marks.items n.id))) c.chain.ensures)
    c.check_ticket.ensures.driver c.check_ticket.ensures.stores c.check_ticket.ensures.alive
    c.check_ticket.ensures.undone
