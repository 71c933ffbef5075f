use Rattle.std.specs.Prelude.{is_some}
use Rattle.pyd_names.specs.Binding.{function_in}
use Rattle.pyd_scope.specs.Indexing.{places_from}
use Rattle.pyd_scope.proofs.Indexes.{place_more, places_done}
use Rattle.pyd_scope.proofs.index.function_places_of.Goals as goal

pub loop-place-preserved : goal.loop-place-preserved
loop-place-preserved c =
    place_more (λ i. is_some (function_in i)) c.args.items.now c.loop-place.place c.index-items-place.result
    c.is_function.result c.loop-place.places.items c.add_place.new.places.items
    (places_from (λ i. is_some (function_in i)) 0 c.args.items.now) c.index-items-place.is
    c.loop-place-test.true c.is_function.ensures c.loop-place.invariant c.in_ok-add_place.ensures

pub returns : goal.returns
returns c =
    places_done (λ i. is_some (function_in i)) c.args.items.now c.loop-place.place c.loop-place.places.items
    (places_from (λ i. is_some (function_in i)) 0 c.args.items.now) c.loop-place-test.false
    c.loop-place.invariant
