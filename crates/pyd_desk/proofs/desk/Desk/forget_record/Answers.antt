use Rattle.std.proofs.Common.{refl, ◌∙◌}
use Rattle.pyd_desk.proofs.desk.Desk.forget_record.Goals as goal

pub returns : goal.returns
returns c = record {
  marks = c.forget_mark-machine.ensures.marks;
  kept = c.remove_from.ensures.kept;
  removed = λ m is. c.remove_from.ensures.removed m (c.forget_mark-machine.ensures.machine ∙ is);
  count = c.remove_from.ensures.count;
  driver = refl;
  alive = refl;
  undone = refl;
}
