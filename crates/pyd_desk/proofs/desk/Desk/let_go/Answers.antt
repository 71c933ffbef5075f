use Rattle.std.proofs.Common.{set, ap, refl, ◌∙◌}
use Rattle.pyd_runs.specs.Effects.{dropped}
use Rattle.pyd_desk.specs.declared.desk.Desk.{Desk}
use Rattle.pyd_desk.specs.Desks.{mark_at}
use Rattle.pyd_desk.proofs.Becoming.{becomes, put_shape}
use Rattle.pyd_desk.proofs.Moving.{beside}
use Rattle.pyd_desk.proofs.Dropped.{dropped_is, with_release}
use Rattle.pyd_desk.proofs.desk.Desk.let_go.Goals as goal

pub returns-clause-becomes : goal.returns-clause-becomes
returns-clause-becomes c =
    let d = c.args.self.now in
    let e : Desk = record d { marks = c.release.new.marks; undone = c.forget_undone.new.undone } in
    let marks =
    c.release.ensures
    ∙ ap (λ alive. set d.marks.items c.args.node
    (with_release alive c.args.attempt c.args.machine (mark_at d.marks.items c.args.node)))
    c.as_slice.ensures.value in
    becomes d e (λ s. dropped s c.args.node c.args.attempt c.args.machine)
    (put_shape d e c.args.node _ c.requires marks refl refl)
    (λ s. ap (beside s d)
    (dropped_is d c.release.new.marks.items c.forget_undone.new.undone.items c.args.node c.args.attempt
    c.args.machine c.requires marks c.forget_undone.ensures))
