use Rattle.std.proofs.Common.{ap, refl}
use Rattle.pyd_runs.specs.Effects.{kept_by_machine}
use Rattle.pyd_desk.specs.declared.desk.Desk.{Desk}
use Rattle.pyd_desk.specs.Desks.{silent}
use Rattle.pyd_desk.proofs.Becoming.{becomes, put_shape}
use Rattle.pyd_desk.proofs.Moving.{beside, kept_is}
use Rattle.pyd_desk.proofs.desk.Desk.keep_record.Goals as goal

pub returns-in-Ok-clause-ok : goal.returns-in-Ok-clause-ok
returns-in-Ok-clause-ok c =
    let d = c.args.self.now in
    let e : Desk = record d { marks = c.set_machine.new.marks; stores = c.put_in.new.stores } in
    becomes d e (λ s. kept_by_machine s c.args.node c.args.machine (silent c.args.outcome))
    (put_shape d e c.args.node _ c.requires.node c.set_machine.ensures refl refl)
    (λ s. ap (beside s d)
    (kept_is c.a_store_is_a_map.ensures d _ _ c.args.node c.args.machine c.args.outcome
    c.requires.node c.requires.machine c.requires.claimed c.set_machine.ensures c.in-Ok.ensures.ok))

pub returns-in-Err-clause-same : goal.returns-in-Err-clause-same
returns-in-Err-clause-same c = record {
  marks = refl;
  driver = refl;
  stores = c.in-Err.ensures.same;
  alive = refl;
  undone = refl;
}
