use Rattle.std.proofs.Common.{false, length, length-set, ap, ◌∙◌}
use Rattle.std.specs.FinMap as map
use Rattle.pyd_desk.specs.Desks.{is_lost, mark_at}
use Rattle.pyd_desk.proofs.Written.{desk_by}
use Rattle.pyd_desk.proofs.Cleared.{clear_store, cleared_is, lost_more}
use Rattle.pyd_desk.proofs.desk.Desk.clear.Goals as goal

pub returns-clause-desk : goal.returns-clause-desk
returns-clause-desk c =
    let d = c.args.self.now in
    ap (λ xs. desk_by xs c.mark_lost.new.alive.items d.undone.items (mark_at d.marks.items)) c.clear_store.ensures
    ∙ ap (λ xs. desk_by (clear_store d.stores.items c.args.machine) xs d.undone.items (mark_at d.marks.items)) c.mark_lost.ensures
    ∙ cleared_is c.a_store_is_a_map.ensures d c.args.machine c.requires.store c.requires.alive

pub returns-clause-lost : goal.returns-clause-lost
returns-clause-lost c =
    ap is_lost c.mark_lost.ensures ∙ lost_more c.args.self.now.alive.items c.args.machine c.requires.alive

pub returns-clause-machines : goal.returns-clause-machines
returns-clause-machines c =
    let d = c.args.self.now in
    record {
      stores = ap length c.clear_store.ensures ∙ length-set d.stores.items c.args.machine map.empty;
      alive = ap length c.mark_lost.ensures ∙ length-set d.alive.items c.args.machine false;
    }
