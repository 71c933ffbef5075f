use Rattle.std.proofs.Common.{ap, refl}
use Rattle.pyd_runs.specs.Effects.{placed}
use Rattle.pyd_desk.specs.declared.desk.Desk.{Desk}
use Rattle.pyd_desk.proofs.Becoming.{becomes, put_shape}
use Rattle.pyd_desk.proofs.Moving.{beside, placed_is}
use Rattle.pyd_desk.proofs.desk.Desk.place.Goals as goal

pub returns-clause-becomes : goal.returns-clause-becomes
returns-clause-becomes c =
    let d = c.args.self.now in
    let e : Desk = record d { marks = c.set_ticket.new.marks } in
    becomes d e (λ s. placed s c.args.node c.args.attempt c.args.machine)
    (put_shape d e c.args.node _ c.requires c.set_ticket.ensures refl refl)
    (λ s. ap (beside s d)
    (placed_is d c.set_ticket.new.marks.items c.args.node _ c.requires c.set_ticket.ensures))
