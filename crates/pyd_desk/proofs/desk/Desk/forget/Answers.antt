use Rattle.std.proofs.Common.{ap, length, length-set, sym, subst, ◌<◌, ◌∙◌}
use Rattle.std.specs.List.{All}
use Rattle.pyd_ir.specs.declared.node.Node.{Node}
use Rattle.pyd_desk.specs.Desks.{mark_at}
use Rattle.pyd_desk.specs.Trimming.{forgotten}
use Rattle.pyd_desk.proofs.Forgotten.{trimmed_is}
use Rattle.pyd_desk.proofs.Left.{left_all}
use Rattle.pyd_desk.proofs.desk.Desk.forget.Goals as goal

pub forget_record-requires : goal.forget_record-requires
forget_record-requires c =
    c.past_number-id.ensures.among (length c.args.self.now.marks.items) c.requires.numbered

pub drop_tickets-requires-clause-numbered : goal.drop_tickets-requires-clause-numbered
drop_tickets-requires-clause-numbered c =
    let marks = c.args.self.now.marks.items in
    let id = c.past_number-id.result in
    subst (λ j. All (λ (n : Node). n.id < j) c.take_out.new.self.nodes.items)
    (sym (ap length c.forget_record.ensures.marks ∙ length-set marks id (forgotten (mark_at marks id))))
    (left_all (λ (n : Node). n.id < length marks) c.args.line.now.nodes.items c.take_out.new.self.nodes.items c.args.at
    c.take_out.ensures.nodes c.requires.numbered)

pub returns-clause-trimmed : goal.returns-clause-trimmed
returns-clause-trimmed c =
    trimmed_is c.args.line.now c.take_out.new.self c.args.self.now c.forget_record.new.self c.drop_tickets.new.self
    c.args.at c.past_number-id.result c.past_number-id.ensures.number c.take_out.ensures.past c.take_out.ensures.chain
    c.forget_record.ensures c.drop_tickets.ensures

pub returns-clause-machines : goal.returns-clause-machines
returns-clause-machines c = record {
  stores = ap (λ v. length v.items) c.drop_tickets.ensures.stores ∙ c.forget_record.ensures.count;
  alive = ap (λ v. length v.items) c.drop_tickets.ensures.alive
      ∙ ap (λ v. length v.items) c.forget_record.ensures.alive;
}
