use Rattle.pyd_scope.specs.Indexing.{unmarked_from}
use Rattle.pyd_scope.proofs.Indexes.{unmarked_more, unmarked_done}
use Rattle.pyd_scope.proofs.index.unmarked.Goals as goal

pub loop-place-preserved : goal.loop-place-preserved
loop-place-preserved c =
    unmarked_more c.args.marks.now c.args.items.now c.loop-place.place c.index-items-place.result
    c.is_unmarked.result c.loop-place.places.items c.add_place.new.places.items
    (unmarked_from c.args.marks.now 0 c.args.items.now) c.index-items-place.is c.loop-place-test.true
    c.is_unmarked.ensures c.loop-place.invariant c.in_ok-add_place.ensures

pub returns : goal.returns
returns c =
    unmarked_done c.args.marks.now c.args.items.now c.loop-place.place c.loop-place.places.items
    (unmarked_from c.args.marks.now 0 c.args.items.now) c.loop-place-test.false c.loop-place.invariant
