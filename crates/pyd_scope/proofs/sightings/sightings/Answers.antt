use Rattle.std.proofs.Common.{List, map, ◌++◌, ◌∙◌, ap, Bor, false}
use Rattle.pyd_tree.specs.declared.file.Func.{Func}
use Rattle.pyd_scope.specs.declared.sightings.Sighting.{Sighting}
use Rattle.pyd_scope.specs.Standings.{sighting_in}
use Rattle.pyd_scope.proofs.Outsides.{sightings_whole}
use Rattle.pyd_scope.proofs.sightings.sightings.Goals as goal

pub returns : goal.returns
returns c =
    sightings_whole c.args.file.now c.in_ok-outside.outside c.add_sightings.new.out.items c.loop-func.out.items c.as_slice.result.now c.deref-func-items.result.now c.loop-func.func-index
    c.in_ok-outside.ensures
    (c.in_ok-add_sightings.ensures ∙ ap (λ (s : List Sighting). s ++ map (sighting_in c.in_ok-outside.outside c.in_ok-outside.outside.variables false) c.as_slice.result.now) c.new-out.ensures.items)
    (c.as_slice.ensures ∙ c.in_ok-module.ensures)
    (ap (λ (fs : List (Bor Func)). map (λ f. f.now) fs) c.deref-func-items.ensures.value ∙ c.in_ok-funcs.ensures)
    c.loop-func-test.false c.loop-func.invariant
