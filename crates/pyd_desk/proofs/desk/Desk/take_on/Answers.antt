use Rattle.std.proofs.Common.{◌∙◌, ap, refl}
use Rattle.pyd_desk.specs.declared.desk.Desk.{Desk}
use Rattle.pyd_desk.specs.declared.desk.Held.{Held}
use Rattle.pyd_desk.specs.Desks.{kept_apart}
use Rattle.pyd_desk.proofs.Moving.{taken_on}
use Rattle.pyd_desk.proofs.desk.Desk.take_on.Goals as goal

pub returns-clause-becomes : goal.returns-clause-becomes
returns-clause-becomes c line s is there =
    let d = c.args.self.now in
    let k = c.args.node in
    let h : Held = record { attempt = c.args.attempt; machine = c.args.machine; seat = c.args.seat; job = c.of-job.result } in
    let e : Desk = record d { marks = c.set_claim-before.new.marks; undone = c.keep_apart.new.undone } in
    taken_on line d e s k h c.args.job.now c.requires.node c.requires.lives
    (record {
      marks = c.set_claim-before.ensures.marks;
      driver = refl;
      stores = refl;
      alive = refl;
      undone =
          c.keep_apart.ensures
          ∙ ap (λ alive. kept_apart alive d.undone.items k c.set_claim-before.result) c.as_slice.ensures.value
          ∙ ap (kept_apart d.alive.items d.undone.items k) c.set_claim-before.ensures.before;
    })
    c.of-job.ensures is there
