use Rattle.std.proofs.Common.{length, ap, ◌∙◌}
use Rattle.pyd_desk.proofs.Losses.{IsClearedOf, lost_is}
use Rattle.pyd_desk.proofs.desk.Desk.lose.Goals as goal

pub returns-clause-becomes : goal.returns-clause-becomes
returns-clause-becomes c p s sound is =
    let d = c.args.self.now in
    let cleared : IsClearedOf c.args.machine d c.clear.new.self = record {
      desk = c.clear.ensures.desk;
      lost = c.clear.ensures.lost;
      marks = c.clear.ensures.marks;
      driver = c.clear.ensures.driver;
    } in
    lost_is p s d c.clear.new.self c.args.line.now c.args.machine sound is cleared c.drop_tickets.new.self
    c.drop_tickets.ensures

pub returns-clause-machines : goal.returns-clause-machines
returns-clause-machines c = record {
  stores = ap (λ xs. length xs.items) c.drop_tickets.ensures.stores ∙ c.clear.ensures.machines.stores;
  alive = ap (λ xs. length xs.items) c.drop_tickets.ensures.alive ∙ c.clear.ensures.machines.alive;
}
