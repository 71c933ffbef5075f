use Rattle.std.proofs.Common.{◌++◌, ◌∷◌, [], ap, ◌∙◌, arith}
use Rattle.std.specs.FinMap as map
use Rattle.pyd_desk.proofs.Started.{one_more}
use Rattle.pyd_desk.proofs.starting.empty_stores.Goals as goal

pub loop-alloc-preserved : goal.loop-alloc-preserved
loop-alloc-preserved c =
    let stores = c.loop-alloc.stores.items in
    one_more stores c.add.new.items.items _ c.args.count map.empty
    (omega (arith, c.loop-alloc-test.true, c.len.ensures)) c.loop-alloc.invariant
    (c.in_ok-add.ensures ∙ ap (λ store. stores ++ store ∷ []) c.new.ensures)
