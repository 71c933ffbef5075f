use Rattle.std.proofs.Common.{refl, ◌∙◌}
use Rattle.pyd_desk.proofs.Told.{new_marks}
use Rattle.pyd_desk.proofs.desk.Desk.add_nodes.Goals as goal

pub returns : goal.returns
returns c = record {
  marks = λ within more below.
      new_marks c.args.self.now.marks.items c.add_marks.new.marks.items c.set_ports.new.marks.items
      c.tell_ports.new.marks.items c.args.id c.args.numbers c.args.nodes.now within more below
      c.add_marks.ensures.marks (c.add_marks.ensures.count more) c.set_ports.ensures.set
      c.set_ports.ensures.count c.tell_ports.ensures.told;
  driver = c.add_places.ensures.driver;
  mark_count = λ more.
      c.tell_ports.ensures.count ∙ c.set_ports.ensures.count ∙ c.add_marks.ensures.count more;
  driver_count = c.add_places.ensures.count;
  stores = refl;
  alive = refl;
  undone = refl;
}
