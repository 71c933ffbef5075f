use Rattle.std.proofs.Common.{◌≡◌, sym, subst}
use Rattle.std.proofs.lemmas.List.Elements.{All-push}
use Rattle.pyd_scope.specs.declared.table.Entry.{Entry}
use Rattle.pyd_scope.specs.Tables.{entry, known_in, AreKnown}
use Rattle.pyd_scope.proofs.tables.add_entries.Goals as goal

pub loop-name-preserved : goal.loop-name-preserved
loop-name-preserved c =
    subst (AreKnown c.args.outside.now c.args.locals.now) (sym c.in_ok-add.ensures.ok)
    (All-push (λ (e : Entry). e.known ≡ known_in c.args.outside.now c.args.locals.now e.name) c.loop-name.table (entry c.name-item.result c.known.result)
    c.loop-name.invariant c.known.ensures)
